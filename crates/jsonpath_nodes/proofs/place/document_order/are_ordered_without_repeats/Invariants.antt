use Rattle.std.proofs.Common.{map, take}
use Rattle.std.specs.List.Sorted.{IsStrictlySortedBy}
use Rattle.jsonpath_nodes.specs.place.Location.{location_cmp}
use Rattle.jsonpath_nodes.specs.place.SpotPlace.{place_location}
use Rattle.jsonpath_nodes.specs.plan.OrderedSpots.{last_location}
use Rattle.jsonpath_nodes.proofs.step.InOrderLemmas.{EndsWith}
use Rattle.jsonpath_nodes.proofs.place.document_order.are_ordered_without_repeats.Given as goal

abbrev pub invariant-loop-spot : goal.invariant-loop-spot
invariant-loop-spot g l = record {
  ends : EndsWith (last_location g.T.Name.Name.bytes l.last) (map (place_location g.T.Name.Name.bytes) (take l.spot-index l.spots));
  ordered : IsStrictlySortedBy location_cmp (map (place_location g.T.Name.Name.bytes) (take l.spot-index l.spots));
}
