use Rattle.std.proofs.Common.{◌≡◌, map, take}
use Rattle.std.specs.List.Sorted.{IsStrictlySortedBy}
use Rattle.jsonpath_nodes.specs.place.Location.{location_cmp}
use Rattle.jsonpath_nodes.specs.place.SpotPlace.{place_location}
use Rattle.jsonpath_nodes.proofs.update.locations.compute_paths.Given as goal

abbrev pub invariant-loop-i : goal.invariant-loop-i
invariant-loop-i g l = record {
  all : l.found.items ≡ map (place_location g.T.Name.Name.bytes) (take l.i l.spots);
  ordered : IsStrictlySortedBy location_cmp l.found.items;
}
