use Rattle.std.proofs.Common.{sym, ap, ◌∙◌, suc, drop, ◌∷◌}
use Rattle.jsonpath_nodes.specs.place.Location.{Step, Location}
use Rattle.jsonpath_nodes.specs.place.Owned.{owned_steps}
use Rattle.jsonpath_nodes.specs.place.SpotPlace.{step_of}
use Rattle.jpath_edits.proofs.ChangedValueLemmas.{step_on}
use Rattle.jpath_edits.proofs.changed_value.has_step.Goals as goal

pub returns-in-Some : goal.returns-in-Some
returns-in-Some c same =
    ap (drop c.args.depth) (sym c.steps.ensures)
    ∙ step_on c.args.depth c.steps.result.now c.in-Some.own.now c.in-Some.ensures.lookup.3.0 c.in-Some.ensures.lookup.1
    ∙ ap (λ (s : Step). s ∷ drop (suc c.args.depth) (owned_steps c.steps.result.now)) (c.is_step.ensures same)
    ∙ ap (λ (l : Location). step_of c.args.step ∷ drop (suc c.args.depth) l) c.steps.ensures
