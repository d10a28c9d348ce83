use Rattle.std.proofs.Common.{◌≡◌, ◌++◌, map, drop}
use Rattle.jsonpath_nodes.specs.place.Location.{below}
use Rattle.jsonpath_nodes.specs.place.SpotPlace.{sight_of}
use Rattle.jsonpath_nodes.proofs.place.KeptLemmas.{sights_from_each}
use Rattle.jsonpath_nodes.proofs.step.value_walker.ValueWalker.below.Given as goal

abbrev pub invariant-loop-spot : goal.invariant-loop-spot
invariant-loop-spot l = map sight_of l.found.items ++ sights_from_each below (drop l.spot-index l.spots) ≡ sights_from_each below l.spots
