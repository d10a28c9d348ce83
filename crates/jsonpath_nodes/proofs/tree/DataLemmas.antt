-- A document is of one data alone.
use Rattle.std.proofs.Common.{◌≡◌, refl, sym, ap, ap₂, ◌∙◌}
use Rattle.serde_json.specs.Data as kept
use Rattle.jsonpath_nodes.specs.document.Document.{read, written, refused, Document, null, boolean, number, string, array, object, Items, no_items, item, Members, no_members, member}
use Rattle.jsonpath_nodes.specs.document.OfData.{document_of, items_of, members_of, DocumentsKeepDataApart}

abbrev mutual
  data_of : Document → kept.Data
  data_of null = kept.null
  data_of (boolean b) = kept.boolean b
  data_of (number (read n)) = kept.number n
  data_of (number (written s)) = kept.null
  data_of (number (refused s)) = kept.null
  data_of (string s) = kept.string s
  data_of (array ds) = kept.array (kept_items ds)
  data_of (object ms) = kept.object (kept_members ms)

  kept_items : Items → kept.Items
  kept_items no_items = kept.no_items
  kept_items (item d ds) = kept.item (data_of d) (kept_items ds)

  kept_members : Members → kept.Members
  kept_members no_members = kept.no_members
  kept_members (member k d ms) = kept.member k (data_of d) (kept_members ms)

mutual
  back : (d : kept.Data) → data_of (document_of d) ≡ d
  back kept.null = refl
  back (kept.boolean b) = refl
  back (kept.number n) = refl
  back (kept.string s) = refl
  back (kept.array ds) = ap kept.array (items_back ds)
  back (kept.object ms) = ap kept.object (members_back ms)

  items_back : (ds : kept.Items) → kept_items (items_of ds) ≡ ds
  items_back kept.no_items = refl
  items_back (kept.item d ds) = ap₂ kept.item (back d) (items_back ds)

  members_back : (ms : kept.Members) → kept_members (members_of ms) ≡ ms
  members_back kept.no_members = refl
  members_back (kept.member k d ms) = ap₂ (kept.member k) (back d) (members_back ms)

pub keeps_data_apart : DocumentsKeepDataApart
keeps_data_apart d e h = sym (back d) ∙ ap data_of h ∙ back e
