use Rattle.std.proofs.Common.{◌≡◌, ◌++◌, map, drop}
use Rattle.jsonpath_nodes.specs.place.SpotPlace.{location_of}
use Rattle.jsonpath_select.proofs.answer.of_spots.locations_of_selected_spots.Given as goal

abbrev pub invariant-loop-spot : goal.invariant-loop-spot
invariant-loop-spot l = l.found.items ++ map location_of (drop l.spot-index l.spots) ≡ map location_of l.spots
