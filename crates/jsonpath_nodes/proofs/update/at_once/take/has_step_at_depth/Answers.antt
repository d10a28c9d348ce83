use Rattle.std.proofs.Common.{◌∙◌, drop, ap}
use Rattle.jsonpath_nodes.specs.place.Location.{Location}
use Rattle.jsonpath_nodes.specs.plan.Groups.{goes_through}
use Rattle.jsonpath_nodes.specs.place.Owned.{owned_step}
use Rattle.jsonpath_nodes.proofs.update.GroupLemmas.{goes_here, goes_nowhere}
use Rattle.jsonpath_nodes.proofs.update.at_once.take.has_step_at_depth.Goals as goal

pub returns-in-Some : goal.returns-in-Some
returns-in-Some c =
    c.eq.ensures
    ∙ goes_here c.steps.result.now c.args.depth c.in-Some.s.now (owned_step c.args.step.now) c.in-Some.ensures.lookup.3.0 c.in-Some.ensures.lookup.1
    ∙ ap (λ (l : Location). goes_through (owned_step c.args.step.now) (drop c.args.depth l)) c.steps.ensures

pub returns-in-None : goal.returns-in-None
returns-in-None c =
    goes_nowhere c.steps.result.now c.args.depth (owned_step c.args.step.now) c.in-None.ensures.lookup.3
    ∙ ap (λ (l : Location). goes_through (owned_step c.args.step.now) (drop c.args.depth l)) c.steps.ensures
