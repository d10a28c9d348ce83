use Rattle.std.proofs.Common.{◌≡◌, ℕ, suc, ◌-◌, ◌<◌, List, length, set, get_or, length-set, sym, subst, ◌∙◌, arith}
use Rattle.jsonpath_nodes.specs.place.Location.{Location}
use Rattle.jsonpath_select.specs.plan.LeadingOn.{AreAt, leading_from_root, set_from_root}
use Rattle.jsonpath_select.specs.declared.tagged.marks.TaggedMarks.{TaggedMarks}
use Rattle.jsonpath_select.proofs.walk.LeadingOnLemmas.{BackTo, back_one, last_leads, leading_back}
use Rattle.jsonpath_select.proofs.walk.follower.Follower.keep_what_leads_on.Goals as goal

pub loop-number-init : goal.loop-number-init
loop-number-init g c = (
  c.requires,
  omega arith,
  λ ordered each.
      let doc = g.M.Mark.content c.args.self.now.root.now in
      let ss = c.args.steps.now in (
        λ k t before. each k t (omega (arith, c.requires, before)),
        λ k t from inside. subst (λ (ls : List Location). AreAt g.M.Mark.located g.M.Mark.stand g.M.Mark.content doc ls (get_or c.args.sets.items k t)) (last_leads c.args.self.now.sets c.args.self.now.text.now doc ss (suc k) from) (each k t inside),
      ),
)

pub loop-number-preserved : goal.loop-number-preserved
loop-number-preserved g c = (
  length-set c.loop-number.kept.items (c.loop-number.number - 1 - 1) c.in_ok-kept.field-0 ∙ c.loop-number.invariant.0,
  omega (arith, c.loop-number.invariant.1),
  λ ordered each.
      let located = g.M.Mark.located in
      let stand = g.M.Mark.stand in
      let content = g.M.Mark.content in
      let sets = c.args.self.now.sets in
      let text = c.args.self.now.text.now in
      let doc = g.M.Mark.content c.args.self.now.root.now in
      let ss = c.args.steps.now in
      let all = c.loop-number.kept.items in
      let m : ℕ = c.loop-number.number - 1 - 1 in
      let two : c.loop-number.number ≡ suc (suc m) = omega (arith, c.loop-number-test.true) in
      let one : c.loop-number.number - 1 ≡ suc m = omega (arith, c.loop-number-test.true) in
      let before : c.loop-number.number - 1 < length ss = omega (arith, c.loop-number.invariant.1, c.loop-number-test.true) in
      let back = c.loop-number.invariant.2 ordered each in
      let here : AreAt located stand content doc (set_from_root sets text doc ss (c.loop-number.number - 1)) c.index.result.now =
      subst (λ (t : TaggedMarks g.row.M.Denot). AreAt located stand content doc (set_from_root sets text doc ss (c.loop-number.number - 1)) t) (sym c.index.ensures)
      (subst (λ (n : ℕ). AreAt located stand content doc (set_from_root sets text doc ss n) (get_or all m c.index.result.now)) (sym one) (back.0 m c.index.result.now (omega (arith, two)))) in
      let ahead : AreAt located stand content doc (leading_from_root sets text doc ss (suc (c.loop-number.number - 1))) c.index-in-loop-number.result.now =
      subst (λ (t : TaggedMarks g.row.M.Denot). AreAt located stand content doc (leading_from_root sets text doc ss (suc (c.loop-number.number - 1))) t) (sym c.index-in-loop-number.ensures)
      (back.1 (c.loop-number.number - 1) c.index-in-loop-number.result.now (omega (arith, two)) (omega (arith, before, c.loop-number.invariant.0))) in
      let new = subst (λ (ls : List Location). AreAt located stand content doc ls c.in_ok-kept.field-0) (leading_back c.equal_locations_are_same.ensures c.locations_once_in_order_ascend.ensures.members c.steps_ignore_order_and_repeats.ensures.each_once c.steps_ignore_order_and_repeats.ensures.some c.steps_ignore_order_and_repeats.ensures.step c.steps_ignore_order_and_repeats.ensures.candidates c.steps_ignore_order_and_repeats.ensures.kept c.topmost_descend_to_same_set.ensures.below c.topmost_descend_to_same_set.ensures.step c.dropping_repeats_keeps_the_set.ensures.condition sets text doc ordered ss (c.loop-number.number - 1) c.index-steps-number.result before c.index-steps-number.is)
      (c.in_ok-kept.ensures (set_from_root sets text doc ss (c.loop-number.number - 1)) (leading_from_root sets text doc ss (suc (c.loop-number.number - 1))) here ahead) in
      subst (λ (n : ℕ). BackTo located stand content doc (set_from_root sets text doc ss) (leading_from_root sets text doc ss) n (set all m c.in_ok-kept.field-0)) (sym one)
      (back_one located stand content doc (set_from_root sets text doc ss) (leading_from_root sets text doc ss) m all c.in_ok-kept.field-0 (omega (arith, two, before, c.loop-number.invariant.0))
      (subst (λ (n : ℕ). AreAt located stand content doc (leading_from_root sets text doc ss n) c.in_ok-kept.field-0) one new)
      (subst (λ (n : ℕ). BackTo located stand content doc (set_from_root sets text doc ss) (leading_from_root sets text doc ss) n all) two back)),
)

pub returns-clause-places : goal.returns-clause-places
returns-clause-places g c = λ ordered each k t inside. (c.loop-number.invariant.2 ordered each).1 k t (omega (arith, c.loop-number-test.false)) inside
