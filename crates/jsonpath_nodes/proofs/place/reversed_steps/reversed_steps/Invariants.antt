use Rattle.std.proofs.Common.{◌≡◌, ◌++◌, length}
use Rattle.jsonpath_nodes.specs.plan.OrderedSpots.{from_top}
use Rattle.jsonpath_nodes.specs.place.SpotPlace.{location_at, path_location}
use Rattle.jsonpath_nodes.proofs.place.reversed_steps.reversed_steps.Given as goal

abbrev pub invariant-loop-step : goal.invariant-loop-step
invariant-loop-step g l = path_location g.N.Name.bytes l.rest ++ from_top g.N.Name.bytes l.up.items ≡ location_at g.N.Name.bytes l.trail

abbrev pub decreases-loop-step : goal.decreases-loop-step
decreases-loop-step g l = length (path_location g.N.Name.bytes l.rest)
