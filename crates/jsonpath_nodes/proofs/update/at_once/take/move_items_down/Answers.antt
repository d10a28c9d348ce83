use Rattle.std.proofs.Common.{◌≡◌, ◌+◌, ◌-◌, ◌≤◌, ◌∙◌, take, ap, arith}
use Rattle.std.proofs.Math.Seq.{take-add}
use Rattle.serde_json.specs.declared.value.Value.{Null}
use Rattle.jsonpath_nodes.proofs.update.MoveLemmas.{moved_more, moved_rest}
use Rattle.jsonpath_nodes.proofs.update.at_once.take.move_items_down.Goals as goal

pub returns-then-kept-next-clause-moved : goal.returns-then-kept-next-clause-moved
returns-then-kept-next-clause-moved c =
    let is : c.args.to ≡ c.args.next + (c.args.to - c.args.next) = omega arith in
    rw c.if-kept-next.true (ap (λ n. take n c.args.list.now.items) is ∙ take-add c.args.next (c.args.to - c.args.next) c.args.list.now.items)

pub loop-i-preserved : goal.loop-i-preserved
loop-i-preserved c =
    let first = c.args.list.now.items in
    let xs = c.loop-i.list.items in
    let ys = c.swap.new.self.items in
    let end = c.loop-i.end in
    let i = c.loop-i.i in
    let count : end ≡ c.args.kept + (i - c.args.next) = c.loop-i.invariant.count in
    let from : c.args.next ≤ i = c.loop-i.auto.i in
    let le : end ≤ i = omega arith in
    record {
      count = omega arith;
      len = omega (arith, c.swap.ensures.len, c.loop-i.list.ok.0, c.swap.new.self.ok.0, c.loop-i.invariant.len);
      moved = moved_more Null first xs ys c.args.kept c.args.next end i from le (omega (arith, c.args.list.now.ok.0)) c.loop-i.invariant.len c.loop-i.invariant.moved c.loop-i.invariant.rest c.swap.ensures.by_index;
      rest = moved_rest Null first xs ys end i le c.loop-i.invariant.rest c.swap.ensures.by_index;
    }
