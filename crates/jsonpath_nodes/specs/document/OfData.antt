-- The document of `serde_json`'s data: the same, constructor by constructor, each number as `serde_json` keeps it.
use Rattle.std.specs.Prelude.{◌≡◌, List, String}
use Rattle.std.specs.declared.alloc.Global.{Global}
use Rattle.serde_json.specs.Data as kept
use Rattle.serde_json.specs.View.{view, items_view, members_view}
use Rattle.serde_json.specs.declared.value.Value.{Value}
use Rattle.jsonpath_nodes.specs.document.Document.{read, Document, null, boolean, number, string, array, object, Items, no_items, item, Members, no_members, member}

abbrev mutual
  pub document_of : kept.Data → Document
  document_of kept.null = null
  document_of (kept.boolean b) = boolean b
  document_of (kept.number n) = number (read n)
  document_of (kept.string s) = string s
  document_of (kept.array ds) = array (items_of ds)
  document_of (kept.object ms) = object (members_of ms)

  pub items_of : kept.Items → Items
  items_of kept.no_items = no_items
  items_of (kept.item d ds) = item (document_of d) (items_of ds)

  pub members_of : kept.Members → Members
  members_of kept.no_members = no_members
  members_of (kept.member k d ms) = member k (document_of d) (members_of ms)

-- the document of a `Value`, and of the values in an array or in an object
abbrev pub value_document : Value → Document
value_document v = document_of (view v)

abbrev pub items_document : List Value → Items
items_document vs = items_of (items_view vs)

abbrev pub members_document : List (String Global × Value) → Members
members_document es = members_of (members_view es)

-- different data have different documents, so what is said of documents is said of the data
abbrev pub DocumentsKeepDataApart : Type 0
DocumentsKeepDataApart = (d e : kept.Data) → document_of d ≡ document_of e → d ≡ e
