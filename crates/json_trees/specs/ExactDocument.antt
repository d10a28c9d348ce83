-- The document that a text's tree is, on which paths are run.
use Rattle.std.specs.Prelude.{ℕ, List}
use Rattle.std.specs.Borrow.{Bor}
use Rattle.json.specs.Json.{Json}
use Rattle.json.specs.Value.{value_view}
use Rattle.jsonpath_nodes.specs.document.Document.{Document}
use Rattle.json_trees.specs.OrderedTree.{document_of_tree, in_order}
use Rattle.json_trees.specs.declared.ordered_tree.handle.OrderedValue.{OrderedValue}

-- each number as it is written, the members of each object in the order of their names, of a name that comes again the last value
abbrev pub exact_document : Json → Document
exact_document j = document_of_tree (in_order j)

-- the document at a handle
abbrev pub document_at : OrderedValue → Document
document_at v = exact_document (value_view v.value.now)

-- a member's name
abbrev pub name_bytes : Bor (List ℕ) → List ℕ
name_bytes name = name.now
