use Rattle.std.proofs.Common.{◌≡◌, map, take}
use Rattle.jsonpath_nodes.specs.place.Owned.{owned_steps}
use Rattle.jsonpath_nodes.specs.place.SpotPlace.{step_of}
use Rattle.jsonpath_nodes.proofs.place.spot.location_of_path.Given as goal

abbrev pub invariant-loop-step : goal.invariant-loop-step
invariant-loop-step g l = owned_steps l.steps.items ≡ map step_of (take l.step-index l.step-items)
