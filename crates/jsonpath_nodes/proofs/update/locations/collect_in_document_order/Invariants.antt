use Rattle.std.proofs.Common.{◌≡◌, ◌++◌, map, take}
use Rattle.jsonpath_nodes.specs.place.Order.{once_in_order}
use Rattle.jsonpath_nodes.specs.place.SpotPlace.{place_location}
use Rattle.jsonpath_nodes.proofs.update.locations.collect_in_document_order.Given as goal

abbrev pub invariant-loop-location : goal.invariant-loop-location
invariant-loop-location g l = l.seen.keys ≡ once_in_order l.yielded

abbrev pub invariant-loop-spot : goal.invariant-loop-spot
invariant-loop-spot g l = l.seen.keys ≡ once_in_order (l.fn.found.items ++ map (place_location g.T.Name.Name.bytes) (take l.spot-index l.spots))
