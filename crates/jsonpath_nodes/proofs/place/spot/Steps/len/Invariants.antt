use Rattle.std.proofs.Common.{◌≡◌, ◌+◌, ◌-◌, ◌^◌, ◌≤◌, length, min}
use Rattle.jsonpath_nodes.specs.place.SpotPlace.{key_bytes, path_location, steps_of}
use Rattle.jsonpath_nodes.proofs.place.spot.Steps.len.Given as goal

abbrev pub invariant-loop-before : goal.invariant-loop-before
invariant-loop-before l = record {
  count : min (length (path_location key_bytes l.rest) + l.len) (2 ^ 64 - 1) ≡ min (length (steps_of l.self)) (2 ^ 64 - 1);
  within : l.len ≤ 2 ^ 64 - 1;
}

abbrev pub decreases-loop-before : goal.decreases-loop-before
decreases-loop-before l = length (path_location key_bytes l.rest)
