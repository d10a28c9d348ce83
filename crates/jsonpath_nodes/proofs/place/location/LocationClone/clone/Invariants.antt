use Rattle.std.proofs.Common.{◌≡◌, take}
use Rattle.jsonpath_nodes.specs.place.Owned.{owned_steps}
use Rattle.jsonpath_nodes.proofs.place.location.LocationClone.clone.Given as goal

abbrev pub invariant-loop-step : goal.invariant-loop-step
invariant-loop-step l = owned_steps l.steps.items ≡ owned_steps (take l.step-index l.step-items)
