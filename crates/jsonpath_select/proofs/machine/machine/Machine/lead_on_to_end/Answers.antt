use Rattle.std.proofs.Common.{◌≡◌, false, List, [], ◌∷◌, length, map, refl, sym, ap, ◌∙◌, subst}
use Rattle.std.specs.Prelude.{filter}
use Rattle.jsonpath_paths.specs.tree.Tree.{lone, path}
use Rattle.jsonpath_nodes.specs.place.Location.{Location}
use Rattle.jsonpath_nodes.specs.place.Mark.{MarksStandAt, shown}
use Rattle.jsonpath_select.specs.Meaning.{follow, holds}
use Rattle.jsonpath_select.specs.plan.NextFilter.{CodesSteps, first_step, later_steps}
use Rattle.jsonpath_select.specs.declared.machine.instruction.Instruction.{Instruction}
use Rattle.jsonpath_select.proofs.filters.NextFilterLemmas.{empty, first_then_later, no_steps_left}
use Rattle.jsonpath_select.proofs.walk.MarkLemmas.{length-marks}
use Rattle.jsonpath_select.proofs.walk.PieceLemmas.{follow-none}
use Rattle.jsonpath_select.proofs.machine.machine.Machine.lead_on_to_end.Goals as goal

pub loop-rest-init : goal.loop-rest-init
loop-rest-init g c = λ ss ls are there. (ss, ls, are, there, refl)

pub lead_to_end-requires : goal.lead_to_end-requires
lead_to_end-requires g c =
    let h = c.loop-rest.invariant c.requires.steps.0 c.requires.there.0 c.requires.steps.1 c.requires.there.1 in
    record { steps = (first_step h.0, c.instructions_of_first_step.ensures h.0 h.2); there = (h.1, h.3) }

pub keep_leading_on-requires : goal.keep_leading_on-requires
keep_leading_on-requires g c =
    let h = c.loop-rest.invariant c.requires.steps.0 c.requires.there.0 c.requires.steps.1 c.requires.there.1 in
    record { steps = (later_steps h.0, c.instructions_behind_first_step-rest.ensures.behind h.0 h.2); there = (follow c.args.self.now.text.now (g.M.Mark.content c.args.self.now.root.now) (first_step h.0) h.1, c.in_ok-led.ensures (first_step h.0) h.1 (c.instructions_of_first_step.ensures h.0 h.2) h.3) }

pub loop-rest-preserved : goal.loop-rest-preserved
loop-rest-preserved g c = λ ss ls are there.
    let text = c.args.self.now.text.now in
    let doc = g.M.Mark.content c.args.self.now.root.now in
    let h = c.loop-rest.invariant ss ls are there in
    let led = follow text doc (first_step h.0) h.1 in
    let behind = c.instructions_behind_first_step-rest.ensures.behind h.0 h.2 in (
      later_steps h.0,
      filter (λ l. holds text doc (lone (path false (later_steps h.0))) l) led,
      behind,
      c.in_ok-found.ensures (later_steps h.0) led behind (c.in_ok-led.ensures (first_step h.0) h.1 (c.instructions_of_first_step.ensures h.0 h.2) h.3),
      h.4 ∙ first_then_later text doc h.0 h.1 ∙ c.what_leads_on_suffices.ensures text doc (later_steps h.0) led,
    )

no_places : (ks : List Location) → length ks ≡ 0 → ks ≡ []
no_places [] e = refl
no_places (k ∷ ks) e = cc

pub returns-then-is_empty : goal.returns-then-is_empty
returns-then-is_empty g c = λ ss ls are there.
    let located = g.M.Mark.located in
    let stand = g.M.Mark.stand in
    let content = g.M.Mark.content in
    let text = c.args.self.now.text.now in
    let doc = content c.args.self.now.root.now in
    let marks = c.loop-rest.found.marks.items in
    let h = c.loop-rest.invariant ss ls are there in
    let none : marks ≡ [] = sym c.as_slice.ensures.value ∙ empty c.as_slice.result.now (sym c.is_empty-in-loop-rest.ensures ∙ c.if-is_empty.true) in
    let nowhere : h.1 ≡ [] = no_places h.1 (sym (length-marks located stand content doc h.1 marks h.3.0) ∙ ap length none) in
    subst (λ (ks : List Location). MarksStandAt located stand content doc ks marks) (sym (h.4 ∙ ap (follow text doc h.0) nowhere ∙ follow-none text doc h.0)) (ap (map (shown stand content)) none)

pub returns : goal.returns
returns g c = λ ss ls are there.
    let text = c.args.self.now.text.now in
    let doc = g.M.Mark.content c.args.self.now.root.now in
    let h = c.loop-rest.invariant ss ls are there in
    let none = no_steps_left h.0 (subst (λ (is : List Instruction). CodesSteps is h.0) (empty c.loop-rest.rest.now (sym c.is_empty.ensures ∙ c.loop-rest-test.false)) h.2) in
    subst (λ (ks : List Location). MarksStandAt g.M.Mark.located g.M.Mark.stand g.M.Mark.content doc ks c.loop-rest.found.marks.items) (sym (h.4 ∙ ap (λ s. follow text doc s h.1) none)) h.3.0
