use Rattle.std.proofs.Common.{sym, ◌∙◌}
use Rattle.jpath_files.proofs.FactsLemmas.{equal_facts}
use Rattle.jpath_files.proofs.in_place.refuse_changed.Goals as goal

pub returns-then-eq-clause-unchanged : goal.returns-then-eq-clause-unchanged
returns-then-eq-clause-unchanged g c =
    let same = equal_facts c.in_ok-facts.field-0 c.args.found.now (sym c.eq.ensures ∙ c.if-eq.true) in
    λ agrees. rw (← same) (sym (c.in_ok-facts.ensures.1 agrees).0, (c.in_ok-facts.ensures.1 agrees).1)
