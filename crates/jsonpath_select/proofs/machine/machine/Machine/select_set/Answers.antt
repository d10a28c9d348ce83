use Rattle.std.proofs.Common.{true, [], ◌∷◌, List, map, ap, ◌∙◌, subst}
use Rattle.jsonpath_nodes.specs.place.Location.{Location}
use Rattle.jsonpath_nodes.specs.place.Mark.{MarksStandAt}
use Rattle.jsonpath_nodes.specs.place.Order.{once_in_order}
use Rattle.jsonpath_select.specs.plan.Code.{Instruction, all_by_sets}
use Rattle.jsonpath_select.specs.plan.Machine.{at_first, run_all}
use Rattle.jsonpath_select.specs.plan.Manner.{descent, reached_in, values_in}
use Rattle.jsonpath_select.specs.plan.Ordered.{instruction_of}
use Rattle.jsonpath_select.proofs.machine.OrderedLemmas.{found_there, found_is}
use Rattle.jsonpath_select.proofs.machine.TopLemmas.{path_left, path_places, path_run}
use Rattle.jsonpath_select.proofs.tagged.TagLemmas.{path_from}
use Rattle.jsonpath_select.proofs.machine.machine.Machine.select_set.Goals as goal

pub execute_all-requires : goal.execute_all-requires
execute_all-requires g c =
    let text = c.args.self.now.text.now in
    let doc = g.M.Mark.content c.args.self.now.root.now in
    let p = c.requires.0 in
    let apart = c.equal_locations_are_same.ensures in
    let keeps = c.locations_once_in_order_ascend.ensures.members in
    let sets = c.steps_ignore_order_and_repeats.ensures in (
      at_first,
      path_left apart keeps sets.some text doc p,
      c.in_ok-stacks.ensures,
      ap (λ (js : List Instruction). run_all text doc js at_first) (ap (map instruction_of) c.as_slice.ensures.value ∙ c.in_ok-code.ensures ∙ ap all_by_sets c.requires.1.1) ∙ path_run apart keeps sets.some text doc p,
    )

pub pop_marks-requires : goal.pop_marks-requires
pop_marks-requires g c =
    let text = c.args.self.now.text.now in
    let doc = g.M.Mark.content c.args.self.now.root.now in
    let p = c.requires.0 in
    let apart = c.equal_locations_are_same.ensures in
    let keeps = c.locations_once_in_order_ascend.ensures.members in
    let sets = c.steps_ignore_order_and_repeats.ensures in
    let after =
    c.in_ok-execute_all.ensures at_first (path_left apart keeps sets.some text doc p) c.in_ok-stacks.ensures
    (ap (λ (js : List Instruction). run_all text doc js at_first) (ap (map instruction_of) c.as_slice.ensures.value ∙ c.in_ok-code.ensures ∙ ap all_by_sets c.requires.1.1) ∙ path_run apart keeps sets.some text doc p) in
    found_there g.M.Mark.located g.M.Mark.stand g.M.Mark.content text doc (path_from text doc (reached_in true text doc) (values_in true text doc) p 0 ([] ∷ [])) c.execute_all.new.stacks.operands.items after.1

pub returns : goal.returns
returns g c = λ p codes.
    let text = c.args.self.now.text.now in
    let doc = g.M.Mark.content c.args.self.now.root.now in
    let apart = c.equal_locations_are_same.ensures in
    let keeps = c.locations_once_in_order_ascend.ensures.members in
    let sets = c.steps_ignore_order_and_repeats.ensures in
    let after =
    c.in_ok-execute_all.ensures at_first (path_left apart keeps sets.some text doc p) c.in_ok-stacks.ensures
    (ap (λ (js : List Instruction). run_all text doc js at_first) (ap (map instruction_of) c.as_slice.ensures.value ∙ c.in_ok-code.ensures ∙ ap all_by_sets codes.1) ∙ path_run apart keeps sets.some text doc p) in
    let shows = found_is g.M.Mark.located g.M.Mark.stand g.M.Mark.content text doc (path_from text doc (reached_in true text doc) (values_in true text doc) p 0 ([] ∷ [])) c.execute_all.new.stacks.operands.items c.pop_marks.new.operands.items c.pop_marks.result after.1 c.pop_marks.ensures in (
      reached_in true text doc p [],
      subst (λ (ls : List Location). MarksStandAt g.M.Mark.located g.M.Mark.stand g.M.Mark.content doc ls c.pop_marks.result.pairs.marks.items) (path_places apart keeps sets.some text doc p) shows.1.1,
      c.dropping_repeats_keeps_the_set.ensures.ordered once_in_order (descent true doc) text doc p c.locations_once_in_order_ascend.ensures.members (λ ms. c.topmost_descend_to_same_set.ensures.below doc ms c.value_is_document.ensures),
    )
