-- A document with each written number as `serde_json` reads it, and the texts that it reads.
use Rattle.std.specs.Prelude.{◌≡◌, ℕ, List, Option, Some, None}
use Rattle.json.specs.Json as json
use Rattle.json.specs.Json.{Json}
use Rattle.serde_json.specs.Data.{Num, Data}
use Rattle.serde_json.specs.Read.{number_of, read as read_text}
use Rattle.jsonpath_nodes.specs.document.Document.{Number, read, written, refused, Document, null, boolean, number, string, array, object, Items, no_items, item, Members, no_members, member}
use Rattle.jsonpath_nodes.specs.document.OfData.{document_of}
use Rattle.json_trees.specs.OrderedTree.{document_of_tree, items_of_tree, members_of_tree, in_order}
use Rattle.json_trees.specs.declared.text_value.TextValue.{TextValue}
use Rattle.json.specs.Value.{value_view}

-- what was read of a text; a text of which nothing was read is refused
abbrev pub read_or_refused : List ℕ → Option Num → Number
read_or_refused s (Some n) = read n
read_or_refused s None = refused s

abbrev pub number_as_read : Number → Number
number_as_read (read n) = read n
number_as_read (written s) = read_or_refused s (number_of s)
number_as_read (refused s) = refused s

abbrev mutual
  pub as_read : Document → Document
  as_read null = null
  as_read (boolean b) = boolean b
  as_read (number n) = number (number_as_read n)
  as_read (string s) = string s
  as_read (array ds) = array (items_as_read ds)
  as_read (object ms) = object (members_as_read ms)

  pub items_as_read : Items → Items
  items_as_read no_items = no_items
  items_as_read (item d ds) = item (as_read d) (items_as_read ds)

  pub members_as_read : Members → Members
  members_as_read no_members = no_members
  members_as_read (member k d ms) = member k (as_read d) (members_as_read ms)

-- the document of a tree as it stands, of items and of members, their numbers as `serde_json` reads them
abbrev pub tree_as_read : Json → Document
tree_as_read j = as_read (document_of_tree j)

abbrev pub tree_items_as_read : json.Items → Items
tree_items_as_read js = items_as_read (items_of_tree js)

abbrev pub tree_members_as_read : json.Members → Members
tree_members_as_read ms = members_as_read (members_of_tree ms)

-- the document of a text's tree, its numbers as `serde_json` reads them
abbrev pub document_as_read : Json → Document
document_as_read j = tree_as_read (in_order j)

-- the document at a handle
abbrev pub text_document : TextValue → Document
text_document v = document_as_read (value_view v.ordered.value.now)

-- `serde_json` reads the text, and the tree's document is that of what it reads
abbrev pub IsReadAs : List ℕ → Json → Type 0
IsReadAs text j = (d : Data) × (read_text text ≡ Some d) × (document_as_read j ≡ document_of d)
