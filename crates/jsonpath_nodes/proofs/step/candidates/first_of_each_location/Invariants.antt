use Rattle.std.proofs.Common.{List}
use Rattle.jsonpath_nodes.specs.document.Document.{Document}
use Rattle.jsonpath_nodes.specs.place.Location.{Location}
use Rattle.jsonpath_nodes.specs.place.SpotPlace.{place_value}
use Rattle.jsonpath_nodes.specs.step.Steps.{each_once}
use Rattle.jsonpath_nodes.proofs.step.FirstLemmas.{Holds}
use Rattle.jsonpath_nodes.proofs.step.candidates.first_of_each_location.Given as goal
use Rattle.jsonpath_nodes.specs.place.SpotPlace.{place_location}
use Rattle.jsonpath_nodes.specs.place.Mark.{MarksStandAt}
use Rattle.std.proofs.Common.{true}

abbrev pub invariant-loop-spot : goal.invariant-loop-spot
invariant-loop-spot g l = record {
  stand : (doc : Document) (ls : List Location) → MarksStandAt true (place_location g.T.Name.Name.bytes) (place_value g.T.Tree.content) doc ls l.yielded → MarksStandAt true (place_location g.T.Name.Name.bytes) (place_value g.T.Tree.content) doc (each_once ls) l.kept.items;
  held : Holds g.T.Name.Name.bytes g.T.Tree.content l.seen l.kept.items;
}
