use Rattle.std.proofs.Common.{◌≡◌, ◌++◌, List, map, drop}
use Rattle.jsonpath_nodes.specs.document.Document.{Document}
use Rattle.jsonpath_nodes.specs.place.Location.{Location}
use Rattle.jsonpath_nodes.specs.place.SpotPlace.{place_value, look, place_location, place_sight}
use Rattle.jsonpath_nodes.specs.plan.OrderedSpots.{last_location}
use Rattle.jsonpath_nodes.specs.step.SameMembers.{topmost, topmost_after}
use Rattle.jsonpath_nodes.proofs.place.document_order.topmost_spots.Given as goal
use Rattle.jsonpath_nodes.specs.place.Mark.{MarksStandAt}
use Rattle.std.proofs.Common.{true}

abbrev pub invariant-loop-spot : goal.invariant-loop-spot
invariant-loop-spot g l = (doc : Document) (ls : List Location) → MarksStandAt true (place_location g.T.Name.Name.bytes) (place_value g.T.Tree.content) doc ls l.spots
    → map (place_sight g.T.Name.Name.bytes g.T.Tree.content) l.kept.items ++ map (look doc) (topmost_after (last_location g.T.Name.Name.bytes l.last) (drop l.spot-index ls)) ≡ map (look doc) (topmost ls)
