use Rattle.std.proofs.Common.{true, List, map, ap, ◌∙◌, filter}
use Rattle.std.proofs.lemmas.Result.{IfOk-weaker}
use Rattle.jsonpath_nodes.specs.place.Order.{once_in_order}
use Rattle.jsonpath_select.specs.Meaning.{holds}
use Rattle.jsonpath_select.specs.plan.Code.{Instruction}
use Rattle.jsonpath_select.specs.plan.Machine.{run_all}
use Rattle.jsonpath_select.specs.plan.Manner.{descent}
use Rattle.jsonpath_select.specs.plan.NextFilter.{begun}
use Rattle.jsonpath_select.specs.plan.Ordered.{instruction_of}
use Rattle.jsonpath_select.proofs.machine.TopLemmas.{top_decided, top_decided_by_sets}
use Rattle.jsonpath_select.proofs.machine.machine.Machine.keep_passing_candidates.Goals as goal

pub execute_at_candidates-requires : goal.execute_at_candidates-requires
execute_at_candidates-requires g c =
    let text = c.args.self.now.text.now in
    let doc = g.M.Mark.content c.args.self.now.root.now in
    let f = c.requires.is.0 in
    let cs = c.requires.there.0 in (
      cs,
      filter (λ l. holds text doc f l) cs,
      c.requires.there.1,
      ap (λ (js : List Instruction). run_all text doc js (begun cs)) c.requires.is.1
          ∙ top_decided c.equal_locations_are_same.ensures c.locations_once_in_order_ascend.ensures.members c.steps_ignore_order_and_repeats.ensures.some text doc f cs,
    )

pub returns-then-not-self : goal.returns-then-not-self
returns-then-not-self g c =
    let text = c.args.self.now.text.now in
    let doc = g.M.Mark.content c.args.self.now.root.now in
    IfOk-weaker c.execute_at_candidates.result _ _
    (λ found leads f cs codes there. leads cs (filter (λ l. holds text doc f l) cs) there
    (ap (λ (js : List Instruction). run_all text doc js (begun cs)) codes
    ∙ top_decided c.equal_locations_are_same.ensures c.locations_once_in_order_ascend.ensures.members c.steps_ignore_order_and_repeats.ensures.some text doc f cs))
    c.execute_at_candidates.ensures

pub execute_at_candidates-requires-2 : goal.execute_at_candidates-requires-2
execute_at_candidates-requires-2 g c =
    let text = c.args.self.now.text.now in
    let doc = g.M.Mark.content c.args.self.now.root.now in
    let f = c.requires.is.0 in
    let cs = c.requires.there.0 in (
      cs,
      filter (λ l. holds text doc f l) cs,
      c.requires.there.1,
      ap (λ (js : List Instruction). run_all text doc js (begun cs)) (ap (map instruction_of) c.as_slice.ensures.value ∙ c.in_ok-code.ensures f c.requires.is.1)
          ∙ top_decided_by_sets c.equal_locations_are_same.ensures c.locations_once_in_order_ascend.ensures.members c.steps_ignore_order_and_repeats.ensures.some text doc f cs
          (λ l. c.dropping_repeats_keeps_the_set.ensures.condition once_in_order (descent true doc) text doc f l c.locations_once_in_order_ascend.ensures.members (λ ms. c.topmost_descend_to_same_set.ensures.below doc ms c.value_is_document.ensures)),
    )

pub returns : goal.returns
returns g c =
    let text = c.args.self.now.text.now in
    let doc = g.M.Mark.content c.args.self.now.root.now in
    IfOk-weaker c.execute_at_candidates-2.result _ _
    (λ found leads f cs codes there. leads cs (filter (λ l. holds text doc f l) cs) there
    (ap (λ (js : List Instruction). run_all text doc js (begun cs)) (ap (map instruction_of) c.as_slice.ensures.value ∙ c.in_ok-code.ensures f codes)
    ∙ top_decided_by_sets c.equal_locations_are_same.ensures c.locations_once_in_order_ascend.ensures.members c.steps_ignore_order_and_repeats.ensures.some text doc f cs
    (λ l. c.dropping_repeats_keeps_the_set.ensures.condition once_in_order (descent true doc) text doc f l c.locations_once_in_order_ascend.ensures.members (λ ms. c.topmost_descend_to_same_set.ensures.below doc ms c.value_is_document.ensures))))
    c.execute_at_candidates-2.ensures
