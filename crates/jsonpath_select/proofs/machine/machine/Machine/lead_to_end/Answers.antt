use Rattle.std.proofs.Common.{◌≡◌, ◌+◌, List, ◌∷◌, length, refl, sym, ap, ◌∙◌, subst, length-append, arith, filter}
use Rattle.jsonpath_nodes.specs.place.Location.{Location}
use Rattle.jsonpath_nodes.specs.place.Mark.{MarksStandAt}
use Rattle.jsonpath_select.specs.Meaning.{holds}
use Rattle.jsonpath_select.specs.plan.Machine.{gathered}
use Rattle.jsonpath_select.specs.plan.NextFilter.{CodesSteps}
use Rattle.jsonpath_select.specs.plan.Standing.{along}
use Rattle.jsonpath_select.specs.declared.machine.instruction.Instruction.{Instruction}
use Rattle.jsonpath_select.specs.declared.machine.instruction.Instruction.TheVariants.{Enter}
use Rattle.jsonpath_select.proofs.filters.NextFilterLemmas.{behind_begun, ends_condition, next_of, plain_followed}
use Rattle.jsonpath_select.proofs.machine.machine.Machine.lead_to_end.Goals as goal

pub loop-way-init : goal.loop-way-init
loop-way-init g c = λ ss ls are there. (ss, ls, are, there, refl)

pub next_filter-requires : goal.next_filter-requires
next_filter-requires g c = let h = c.loop-way.invariant c.requires.steps.0 c.requires.there.0 c.requires.steps.1 c.requires.there.1 in (h.0, h.2)

pub loop-way-smaller : goal.loop-way-smaller
loop-way-smaller g c =
    let way = c.in-Some.way in
    let behind = c.in-Some.behind.now in
    let lengths : length c.loop-way.rest.now ≡ length way.steps.now + length (Enter way.leaves way.deep ∷ behind) = ap length c.in-Some.ensures.some.0 ∙ length-append way.steps.now (Enter way.leaves way.deep ∷ behind) in
    omega (arith, lengths, c.instructions_after_condition-rest.ensures.within)

pub marks_kept_by_filter-requires : goal.marks_kept_by_filter-requires
marks_kept_by_filter-requires g c =
    let way = c.in-Some.way in
    let behind = c.in-Some.behind.now in
    let cut = c.in-Some.ensures.some in
    let h = c.loop-way.invariant c.requires.steps.0 c.requires.there.0 c.requires.steps.1 c.requires.there.1 in
    let n = next_of c.args.self.now.text.now (g.M.Mark.content c.args.self.now.root.now) way.steps.now way.leaves way.deep behind h.0 cut.1 (subst (λ (is : List Instruction). CodesSteps is h.0) cut.0 h.2) in
    record { steps = cut.1; is = (n.0, (ends_condition behind c.condition_end-end.result n.0 n.1 n.2 c.condition_end-end.ensures.behind).0); there = (h.1, h.3) }

pub loop-way-preserved : goal.loop-way-preserved
loop-way-preserved g c = λ ss ls are there.
    let text = c.args.self.now.text.now in
    let doc = g.M.Mark.content c.args.self.now.root.now in
    let way = c.in-Some.way in
    let behind = c.in-Some.behind.now in
    let end = c.condition_end-end.result in
    let cut = c.in-Some.ensures.some in
    let h = c.loop-way.invariant ss ls are there in
    let n = next_of text doc way.steps.now way.leaves way.deep behind h.0 cut.1 (subst (λ (is : List Instruction). CodesSteps is h.0) cut.0 h.2) in
    let parts = ends_condition behind end n.0 n.1 n.2 c.condition_end-end.ensures.behind in (
      n.1,
      filter (λ l. holds text doc n.0 l) (gathered doc way.leaves way.deep (along text doc way.steps.now h.1)),
      behind_begun behind c.instructions_after_condition-rest.result.now n.0 n.1 n.2 c.instructions_after_condition-rest.ensures.behind,
      c.in_ok-found.ensures n.0 h.1 parts.0 h.3,
      h.4 ∙ n.3 h.1,
    )

pub returns : goal.returns
returns g c =
    let doc = g.M.Mark.content c.args.self.now.root.now in
    λ ss ls are there.
    let h = c.loop-way.invariant ss ls are there in
    subst (λ (ks : List Location). MarksStandAt g.M.Mark.located g.M.Mark.stand g.M.Mark.content doc ks c.in_ok-led.led.marks.items) (sym (h.4 ∙ plain_followed c.args.self.now.text.now doc c.loop-way.rest.now h.0 h.1 h.2 c.in_default.ensures.none)) (c.in_ok-led.ensures h.1 h.3).0
