use Rattle.std.proofs.Common.{List, [], ◌∷◌, Some, None, take, sym, subst}
use Rattle.std.proofs.lemmas.Result.{IfOk-weaker}
use Rattle.jsonpath_nodes.specs.place.Location.{Location}
use Rattle.jsonpath_nodes.specs.place.Mark.{MarksStandAt}
use Rattle.jsonpath_select.specs.plan.First.{BeginAs}
use Rattle.jsonpath_select.specs.plan.Machine.{gathered}
use Rattle.jsonpath_select.specs.plan.NextFilter.{CodesSteps}
use Rattle.jsonpath_select.specs.plan.Standing.{along}
use Rattle.jsonpath_select.specs.declared.machine.instruction.Instruction.{Instruction}
use Rattle.jsonpath_select.proofs.filters.NextFilterLemmas.{ends_condition, next_of, plain_split, sliced_on}
use Rattle.jsonpath_select.proofs.machine.machine.Machine.first_by_instructions.Goals as goal

pub first_in_slices-requires : goal.first_in_slices-requires
first_in_slices-requires g c =
    let text = c.args.self.now.text.now in
    let doc = g.M.Mark.content c.args.self.now.root.now in
    let way = c.in-Some.way in
    let behind = c.in-Some.behind.now in
    let end = c.condition_end-end.result in
    let cut = c.in-Some.ensures.some in
    let n = next_of text doc way.steps.now way.leaves way.deep behind c.requires.0 cut.1 (subst (λ (is : List Instruction). CodesSteps is c.requires.0) cut.0 c.requires.1) in
    let parts = ends_condition behind end n.0 n.1 n.2 c.condition_end-end.ensures.behind in
    let ks = along text doc way.steps.now ([] ∷ []) in
    let there = c.in_ok-candidates-in-Some.ensures ks (c.in_ok-led-in-Some.ensures ([] ∷ []) c.in_ok-root.ensures) in
    record { is = (Some n.0, parts.0); steps = (n.1, sliced_on end behind n.1 parts.1); there = (gathered doc way.leaves way.deep ks, subst (λ ms. MarksStandAt g.M.Mark.located g.M.Mark.stand g.M.Mark.content doc (gathered doc way.leaves way.deep ks) ms) (sym c.as_slice-starts.ensures.value) there.0, there.1) }

pub follow_steps-requires-in-None : goal.follow_steps-requires-in-None
follow_steps-requires-in-None g c = ((plain_split c.args.self.now.text.now (g.M.Mark.content c.args.self.now.root.now) c.saturating_sub-last.result c.args.left.now c.requires.0 c.requires.1 c.in-None.ensures.none).3)

pub first_in_slices-requires-in-None : goal.first_in_slices-requires-in-None
first_in_slices-requires-in-None g c =
    let text = c.args.self.now.text.now in
    let doc = g.M.Mark.content c.args.self.now.root.now in
    let left = c.args.left.now in
    let last = c.saturating_sub-last.result in
    let split = plain_split text doc last left c.requires.0 c.requires.1 c.in-None.ensures.none in
    let ks = along text doc (take last left) ([] ∷ []) in
    record { is = (None, tt); steps = (split.0, sliced_on last left split.0 split.1); there = (ks, subst (λ ms. MarksStandAt g.M.Mark.located g.M.Mark.stand g.M.Mark.content doc ks ms) (sym c.as_slice-starts-in-None.ensures.value) ((c.in_ok-led-in-None.ensures ([] ∷ []) c.in_ok-root.ensures).0), tt) }

pub returns-in_ok-candidates-in-Some : goal.returns-in_ok-candidates-in-Some
returns-in_ok-candidates-in-Some g c =
    let text = c.args.self.now.text.now in
    let doc = g.M.Mark.content c.args.self.now.root.now in
    let way = c.in-Some.way in
    let behind = c.in-Some.behind.now in
    let end = c.condition_end-end.result in
    let cut = c.in-Some.ensures.some in
    let ks = along text doc way.steps.now ([] ∷ []) in
    let there = c.in_ok-candidates-in-Some.ensures ks (c.in_ok-led-in-Some.ensures ([] ∷ []) c.in_ok-root.ensures) in
    IfOk-weaker c.first_in_slices.result _ _
    (λ found begin ss are.
    let n = next_of text doc way.steps.now way.leaves way.deep behind ss cut.1 (subst (λ (is : List Instruction). CodesSteps is ss) cut.0 are) in
    let parts = ends_condition behind end n.0 n.1 n.2 c.condition_end-end.ensures.behind in
    subst (λ (ls : List Location). BeginAs g.M.Mark.located g.M.Mark.stand g.M.Mark.content doc ls found.items) (sym (n.3 ([] ∷ [])))
    (begin (Some n.0) n.1 (gathered doc way.leaves way.deep ks) parts.0 (sliced_on end behind n.1 parts.1)
    (subst (λ ms. MarksStandAt g.M.Mark.located g.M.Mark.stand g.M.Mark.content doc (gathered doc way.leaves way.deep ks) ms) (sym c.as_slice-starts.ensures.value) there.0) there.1))
    c.first_in_slices.ensures

pub returns-in_ok-led-in-None : goal.returns-in_ok-led-in-None
returns-in_ok-led-in-None g c =
    let text = c.args.self.now.text.now in
    let doc = g.M.Mark.content c.args.self.now.root.now in
    let left = c.args.left.now in
    let last = c.saturating_sub-last.result in
    let ks = along text doc (take last left) ([] ∷ []) in
    IfOk-weaker c.first_in_slices-in-None.result _ _
    (λ found begin ss are.
    let split = plain_split text doc last left ss are c.in-None.ensures.none in
    subst (λ (ls : List Location). BeginAs g.M.Mark.located g.M.Mark.stand g.M.Mark.content doc ls found.items) (sym (split.2 ([] ∷ [])))
    (begin None split.0 ks tt (sliced_on last left split.0 split.1)
    (subst (λ ms. MarksStandAt g.M.Mark.located g.M.Mark.stand g.M.Mark.content doc ks ms) (sym c.as_slice-starts-in-None.ensures.value) ((c.in_ok-led-in-None.ensures ([] ∷ []) c.in_ok-root.ensures).0)) tt))
    c.first_in_slices-in-None.ensures
