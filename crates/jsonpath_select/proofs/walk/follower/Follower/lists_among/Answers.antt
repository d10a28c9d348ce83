use Rattle.std.proofs.Common.{◌≡◌, suc, List, [], ◌∷◌, drop, refl, sym, ap, subst, ◌∙◌, add-one, arith, drop_of_length-le, filter}
use Rattle.jsonpath_nodes.specs.place.Location.{Location}
use Rattle.jsonpath_paths.specs.tree.View.{inner_of, steps_of_list}
use Rattle.jsonpath_paths.specs.declared.tree.parser_node.ParserStep.{ParserStep}
use Rattle.jsonpath_select.specs.Meaning.{follow}
use Rattle.jsonpath_select.specs.plan.LeadingOn.{AreAt, is_among, leading_from_root}
use Rattle.jsonpath_select.specs.plan.Machine.{Tagged, spread}
use Rattle.jsonpath_select.specs.plan.Walk.{led_in}
use Rattle.jsonpath_select.specs.plan.Shown.{Shows}
use Rattle.jsonpath_select.specs.declared.tagged.marks.TaggedMarks.{TaggedMarks}
use Rattle.jsonpath_select.proofs.tagged.TagLemmas.{filter-spread, places_alone}
use Rattle.jsonpath_select.proofs.tagged.DistinctLemmas.{all_there}
use Rattle.jsonpath_select.proofs.walk.LeadingOnLemmas.{list_within, list_follows}
use Rattle.jsonpath_select.proofs.walk.follower.Follower.lists_among.Goals as goal

pub loop-number-init : goal.loop-number-init
loop-number-init g c = λ ordered ps shows left. ([] ∷ [], (c.in_ok-current.ensures ps shows).1, all_there [] ([] ∷ []), refl)

pub loop-number-preserved : goal.loop-number-preserved
loop-number-preserved g c = λ ordered ps shows left.
    let located = g.M.Mark.located in
    let stand = g.M.Mark.stand in
    let content = g.M.Mark.content in
    let sets = c.args.self.now.sets in
    let text = c.args.self.now.text.now in
    let doc = g.M.Mark.content c.args.self.now.root.now in
    let ss = c.args.steps.now in
    let i = c.loop-number.number in
    let s = c.index-steps-number.result in
    let inv = c.loop-number.invariant ordered ps shows left in
    let led : List Location = led_in sets text doc (inner_of s.inner) s.leaves inv.0 in
    let ahead = leading_from_root sets text doc ss (suc i) in
    let next = c.in_ok-next.ensures (λ place. inv.0) ([] ∷ []) refl inv.1 in
    let kept = c.in_ok-current-2.ensures (spread (λ place. led) 0 ([] ∷ [])) ahead next (subst (λ (t : TaggedMarks g.row.M.Denot). AreAt located stand content doc ahead t) (sym c.index-kept-number.is) (left i c.index-kept-number.result (omega (arith, c.requires)))) in (
      filter (is_among ahead) led,
      subst (λ (qs : List Tagged). Shows located stand content doc qs c.in_ok-current-2.current) (filter-spread (is_among ahead) (λ place. led) 0 ([] ∷ [])) kept,
      rw add-one (list_within c.equal_locations_are_same.ensures c.locations_once_in_order_ascend.ensures.members c.steps_ignore_order_and_repeats.ensures.each_once c.steps_ignore_order_and_repeats.ensures.some c.steps_ignore_order_and_repeats.ensures.step c.steps_ignore_order_and_repeats.ensures.candidates c.steps_ignore_order_and_repeats.ensures.kept c.topmost_descend_to_same_set.ensures.below c.topmost_descend_to_same_set.ensures.step c.dropping_repeats_keeps_the_set.ensures.condition sets text doc ordered ss i s (omega arith) c.index-steps-number.is inv.0 inv.2),
      rw add-one (list_follows c.equal_locations_are_same.ensures c.locations_once_in_order_ascend.ensures.members c.steps_ignore_order_and_repeats.ensures.each_once c.steps_ignore_order_and_repeats.ensures.some c.steps_ignore_order_and_repeats.ensures.step c.steps_ignore_order_and_repeats.ensures.candidates c.steps_ignore_order_and_repeats.ensures.kept c.topmost_descend_to_same_set.ensures.below c.topmost_descend_to_same_set.ensures.step c.dropping_repeats_keeps_the_set.ensures.condition sets text doc ordered ss i s (omega arith) c.index-steps-number.is c.what_leads_on_suffices.ensures inv.0 _ inv.2 inv.3),
    )

pub returns : goal.returns
returns g c = λ ordered ps shows left.
    let doc = g.M.Mark.content c.args.self.now.root.now in
    let ss = c.args.steps.now in
    let inv = c.loop-number.invariant ordered ps shows left in
    let none : drop c.loop-number.number ss ≡ [] = drop_of_length-le ss {i = c.loop-number.number} (omega arith) in
    (spread (λ place. inv.0) 0 ([] ∷ []), inv.1, places_alone 0 inv.0 ∙ ap (λ (rest : List ParserStep). follow c.args.self.now.text.now doc (steps_of_list rest) inv.0) (sym none) ∙ inv.3)
