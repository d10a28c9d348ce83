use Rattle.std.proofs.Common.{◌≡◌, ◌≤◌, ◌-◌, List, length, take, drop, ap, arith}
use Rattle.jsonpath_nodes.specs.declared.compare.atom.Atom.{Atom}
use Rattle.jsonpath_select.proofs.comparison.SideLemmas.{all_compared, compare_next}
use Rattle.jsonpath_select.proofs.comparison.comparer.Comparer.compare_each_candidate.Goals as goal

pub loop-tag-preserved : goal.loop-tag-preserved
loop-tag-preserved g c =
    let held = c.loop-tag.invariant in
    let l = c.args.left.now in
    let r = c.args.right.now in
    let left_size : length c.as_slice-left_atoms.result.now ≡ length l.atoms.items = ap length held.2 in
    let right_size : length c.as_slice-right_atoms.result.now ≡ length r.atoms.items = ap length held.3 in
    let left_next : c.next_candidate_start_in_side-left_from.result ≤ length c.as_slice-left_atoms.result.now = omega (arith, left_size, c.next_candidate_start_in_side-left_from.ensures.less, c.candidate_end_in_side-left_end.ensures.within) in
    let right_next : c.next_candidate_start_in_side-right_from.result ≤ length c.as_slice-right_atoms.result.now = omega (arith, right_size, c.next_candidate_start_in_side-right_from.ensures.less, c.candidate_end_in_side-right_end.ensures.within) in (
      left_next,
      right_next,
      held.2,
      held.3,
      c.next_candidate_start_in_side-left_from.ensures.constant,
      c.next_candidate_start_in_side-right_from.ensures.constant,
      λ doc a b ha hb. compare_next g.N.Fraction.fraction doc c.args.self.now.op a b l r c.args.self.now.count c.loop-tag.tag c.loop-tag.left_from c.candidate_end_in_side-left_end.result c.next_candidate_start_in_side-left_from.result
          c.loop-tag.right_from c.candidate_end_in_side-right_end.result c.next_candidate_start_in_side-right_from.result c.in_ok-holds.holds
          (take (c.candidate_end_in_side-left_end.result - c.loop-tag.left_from) (drop c.loop-tag.left_from c.as_slice-left_atoms.result.now))
          (take (c.candidate_end_in_side-right_end.result - c.loop-tag.right_from) (drop c.loop-tag.right_from c.as_slice-right_atoms.result.now))
          c.loop-tag.tags.items c.push_tag_if.new.tags.items _ ha hb held.4 held.5 c.loop-tag-test.true c.candidate_end_in_side-left_end.ensures.run c.candidate_end_in_side-right_end.ensures.run
          c.next_candidate_start_in_side-left_from.ensures.goes c.next_candidate_start_in_side-right_from.ensures.goes
          (ap (λ (xs : List (Atom g.row.N.Denot)). take (c.candidate_end_in_side-left_end.result - c.loop-tag.left_from) (drop c.loop-tag.left_from xs)) held.2)
          (ap (λ (xs : List (Atom g.row.N.Denot)). take (c.candidate_end_in_side-right_end.result - c.loop-tag.right_from) (drop c.loop-tag.right_from xs)) held.3)
          c.in_ok-holds.ensures c.in_ok-push_tag_if.ensures (held.6 doc a b ha hb),
    )

pub returns : goal.returns
returns g c = λ doc a b ha hb. all_compared doc c.args.self.now.op c.loop-tag.tag c.args.self.now.count _ _ c.loop-tag.tags.items _ c.loop-tag-test.false (c.loop-tag.invariant.6 doc a b ha hb)
