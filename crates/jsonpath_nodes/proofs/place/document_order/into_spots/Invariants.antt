use Rattle.std.proofs.Common.{◌≡◌, map}
use Rattle.jsonpath_nodes.specs.plan.OrderedSpots.{ordered_spot_sight}
use Rattle.jsonpath_nodes.proofs.place.document_order.into_spots.Given as goal
use Rattle.jsonpath_nodes.specs.place.SpotPlace.{place_sight}

abbrev pub invariant-loop-one : goal.invariant-loop-one
invariant-loop-one g l = map (place_sight g.T.Name.Name.bytes g.T.Tree.content) l.found.items ≡ map (ordered_spot_sight g.T.Name.Name.bytes g.T.Tree.content) l.yielded
