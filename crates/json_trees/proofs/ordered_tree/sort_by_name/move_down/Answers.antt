use Rattle.std.proofs.Common.{◌<◌, ◌+◌, ◌-◌, get_or, length, arith}
use Rattle.std.specs.List.{remove}
use Rattle.json_trees.proofs.SortLemmas.{goes_down, one_fewer}
use Rattle.json_trees.proofs.ordered_tree.sort_by_name.move_down.Goals as goal

pub loop-at-preserved : goal.loop-at-preserved
loop-at-preserved g c =
    let l = c.loop-at in
    let xs = c.args.named.now in
    let base = remove xs c.args.from in
    let below : l.at - 1 < length base = omega (arith, one_fewer xs c.args.from c.requires.from, l.invariant.1, l.invariant.2, c.loop-at-test.true) in (
      λ d. goes_down base l.named c.swap.new.self (l.at - 1) l.at (l.at - 1 + 1) (get_or xs c.args.from d) d below (omega (arith, c.loop-at-test.true)) (omega arith) (l.invariant.0 d) (c.swap.ensures.by_index.3 d),
      omega (arith, c.loop-at-test.true),
      omega (arith, l.invariant.2),
    )
