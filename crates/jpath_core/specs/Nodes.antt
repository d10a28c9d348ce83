-- Nodes of a document: where they stand, and the values there.
use Rattle.std.specs.Prelude.{ℕ, List}
use Rattle.std.specs.Borrow.{Bor}
use Rattle.jsonpath_nodes.specs.document.Document.{Document}
use Rattle.jsonpath_nodes.specs.place.Location.{Location}
use Rattle.jsonpath_nodes.specs.place.SpotPlace.{place_location, place_value}
use Rattle.jsonpath_nodes.specs.declared.place.spot.TreeNode.{TreeNode}
use Rattle.json_trees.specs.ExactDocument.{document_at, name_bytes}
use Rattle.json_trees.specs.declared.ordered_tree.handle.OrderedValue.{OrderedValue}

abbrev pub Node : Type 0
Node = TreeNode OrderedValue (Bor (List ℕ))

abbrev pub location_of : Node → Location
location_of node = place_location name_bytes node

abbrev pub value_of : Node → Document
value_of node = place_value document_at node
