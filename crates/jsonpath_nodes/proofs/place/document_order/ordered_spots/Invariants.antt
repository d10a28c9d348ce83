use Rattle.std.proofs.Common.{◌≡◌, List, map, take}
use Rattle.std.specs.List.{AllByRecursion}
use Rattle.jsonpath_nodes.specs.document.Document.{Document}
use Rattle.jsonpath_nodes.specs.place.Location.{Location}
use Rattle.jsonpath_nodes.specs.place.Order.{once_in_order}
use Rattle.jsonpath_nodes.specs.place.SpotPlace.{place_value, place_location}
use Rattle.jsonpath_nodes.specs.plan.OrderedSpots.{IsShownIn, ordered_spot_location}
use Rattle.jsonpath_nodes.proofs.place.document_order.ordered_spots.Given as goal
use Rattle.jsonpath_nodes.specs.place.Mark.{MarksStandAt}
use Rattle.std.proofs.Common.{true}

abbrev pub invariant-loop-spot : goal.invariant-loop-spot
invariant-loop-spot g l = record {
  order : map (ordered_spot_location g.T.Name.Name.bytes) l.placed.keys ≡ once_in_order (map (place_location g.T.Name.Name.bytes) (take l.spot-index l.spots));
  shown : (doc : Document) (ls : List Location) → MarksStandAt true (place_location g.T.Name.Name.bytes) (place_value g.T.Tree.content) doc ls l.spots → AllByRecursion (IsShownIn g.T.Name.Name.bytes g.T.Tree.content doc) l.placed.keys;
}
