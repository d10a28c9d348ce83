-- A value, level by level, as a document.
use Rattle.std.proofs.Common.{◌≡◌, List, [], ◌∷◌, Less, string_bytes, string_cmp}
use Rattle.std.specs.List.{AllByRecursion}
use Rattle.std.specs.List.Sorted.{IsStrictlySortedBy}
use Rattle.std.specs.Map.{keys_of}
use Rattle.jsonpath_nodes.specs.document.OfData.{members_document}
use Rattle.serde_json.proofs.Views.{Entry}
use Rattle.jsonpath_nodes.specs.place.Location.{name, names, step_cmp}
use Rattle.jsonpath_nodes.specs.place.Order.{NamesAscend}

-- ---- the members of an object

names_above : (e : Entry) (es : List Entry) → AllByRecursion (λ y. string_cmp e.0 y ≡ Less) (keys_of es) → AllByRecursion (λ t. step_cmp (name (string_bytes e.0)) t ≡ Less) (names (members_document es))
names_above e [] h = tt
names_above e (x ∷ es) h = (h.0, names_above e es h.1)

pub names_ascend : (es : List Entry) → IsStrictlySortedBy string_cmp (keys_of es) → NamesAscend (members_document es)
unfolding IsStrictlySortedBy
names_ascend [] h = tt
names_ascend (e ∷ es) h = (names_above e es h.0, names_ascend es h.1)
