use Rattle.std.proofs.Common.{◌++◌, ap₂, arith, ◌≡◌, ◌-◌, ◌+◌, ◌==◌, ℕ, List, take, drop, ap, map, ◌∙◌}
use Rattle.std.specs.List.{list_any, prefix_len}
use Rattle.jsonpath_nodes.specs.compare.Atoms.{seen_with}
use Rattle.jsonpath_nodes.specs.declared.compare.atom.Atom.{Atom}
use Rattle.jsonpath_select.specs.plan.Deciders.{some_right}
use Rattle.jsonpath_select.specs.plan.Machine.{Operand, compared}
use Rattle.jsonpath_select.specs.Parts.{has_pair}
use Rattle.jsonpath_select.proofs.comparison.SideLemmas.{all_compared, compare_to_next, past_none}
use Rattle.jsonpath_select.proofs.comparison.comparer.Comparer.compare_to_constant.Goals as goal

pub loop-tag-init : goal.loop-tag-init
loop-tag-init g c =
    let all : c.args.self.now.count - 0 ≡ c.args.self.now.count = omega arith in (
      omega arith,
      c.as_slice-atoms.ensures.value,
      λ x. c.in_ok-decider.ensures x ∙ ap (λ (ys : List (Atom g.row.N.Denot)). some_right c.args.self.now.op x (map (seen_with g.N.Fraction.fraction) ys)) c.as_slice.ensures.value,
      λ doc a b ha hb. ap₂ (λ (out : List ℕ) (o : Operand). out ++ compared doc c.args.self.now.op 0 (c.args.self.now.count - 0) o b) c.in_ok-tags.ensures.items (past_none a) ∙ ap (λ k. compared doc c.args.self.now.op 0 k a b) all,
    )

pub loop-tag-preserved : goal.loop-tag-preserved
loop-tag-preserved g c =
    let held = c.loop-tag.invariant in
    let from = c.loop-tag.from in
    let end = c.candidate_end_in_tags-end.result in
    let xs = take (end - from) (drop from c.as_slice-atoms.result.now) in
    let ends : end ≡ from + prefix_len (λ u. u == c.loop-tag.tag) (drop from c.args.left.now.tags.now) =
    c.candidate_end_in_tags-end.ensures.run in
    let holds : c.has_pair-holds.result ≡ has_pair c.args.self.now.op (map (seen_with g.N.Fraction.fraction) xs) (map (seen_with g.N.Fraction.fraction) c.args.right.now.atoms.items) =
    c.has_pair-holds.ensures ∙ (λ i. list_any (λ x. held.2 x i) (map (seen_with g.N.Fraction.fraction) xs)) in (
      c.candidate_end_in_tags-end.ensures.within,
      held.1,
      held.2,
      λ doc a b ha hb. compare_to_next g.N.Fraction.fraction doc c.args.self.now.op a b c.args.left.now c.args.right.now c.args.self.now.count c.loop-tag.tag from end c.has_pair-holds.result xs c.loop-tag.tags.items c.push_tag_if.new.tags.items _ ha hb
          c.requires.left c.requires.right c.loop-tag-test.true ends (ap (λ (ys : List (Atom g.row.N.Denot)). take (end - from) (drop from ys)) held.1) holds c.in_ok-push_tag_if.ensures (held.3 doc a b ha hb),
    )

pub returns : goal.returns
returns g c = λ doc a b ha hb. all_compared doc c.args.self.now.op c.loop-tag.tag c.args.self.now.count _ b c.loop-tag.tags.items _ c.loop-tag-test.false (c.loop-tag.invariant.3 doc a b ha hb)
