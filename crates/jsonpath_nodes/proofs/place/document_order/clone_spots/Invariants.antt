use Rattle.std.proofs.Common.{◌≡◌, map, take}
use Rattle.jsonpath_nodes.proofs.place.document_order.clone_spots.Given as goal
use Rattle.jsonpath_nodes.specs.place.SpotPlace.{place_sight}

abbrev pub invariant-loop-spot : goal.invariant-loop-spot
invariant-loop-spot g l = map (place_sight g.T.Name.Name.bytes g.T.Tree.content) l.same.items ≡ map (place_sight g.T.Name.Name.bytes g.T.Tree.content) (take l.spot-index l.spots)
