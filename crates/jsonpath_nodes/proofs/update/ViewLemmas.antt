-- What a write to a list or a map does to the data that it stands for.
use Rattle.std.proofs.Common.{◌≡◌, ℕ, zero, suc, List, [], ◌∷◌, Some, None, String, Global, Ordering, string_bytes, nat_cmp, is_eq, cond, slice_set, refl, ap, arith}
use Rattle.std.specs.BTreeMap.{is_at}
use Rattle.std.specs.Cmp.Lexicographic.{slice_cmp}
use Rattle.std.specs.List.{remove}
use Rattle.std.specs.Map.{remove_entry, set_value}
use Rattle.std.specs.Ordering.{match_ordering}
use Rattle.jsonpath_nodes.specs.document.Document.{Members, member}
use Rattle.jsonpath_nodes.specs.document.OfData.{value_document, items_document, members_document}
use Rattle.serde_json.specs.declared.value.Value.{Value}
use Rattle.serde_json.proofs.Views.{Entry}
use Rattle.jsonpath_nodes.specs.update.Update.{edit_item, edit_member}

pub items_view-set : (vs : List Value) (i : ℕ) (w : Value) → items_document (slice_set vs i w) ≡ edit_item (λ _. Some (value_document w)) i (items_document vs)
items_view-set [] i w = refl
items_view-set (v ∷ vs) zero w = refl
items_view-set (v ∷ vs) (suc i) w = rw (items_view-set vs i w)

pub items_view-remove : (vs : List Value) (i : ℕ) → items_document (remove vs i) ≡ edit_item (λ _. None) i (items_document vs)
items_view-remove [] zero = refl
items_view-remove [] (suc i) = refl
items_view-remove (v ∷ vs) zero = refl
items_view-remove (v ∷ vs) (suc i) = rw (items_view-remove vs i)

-- what was written before the last write or a removal does not matter
pub set_written : (vs : List Value) (i : ℕ) (v w : Value) → slice_set (slice_set vs i v) i w ≡ slice_set vs i w
set_written [] i v w = refl
set_written (x ∷ vs) zero v w = refl
set_written (x ∷ vs) (suc i) v w = ap (λ ys. x ∷ ys) (set_written vs i v w)

pub remove_set : (vs : List Value) (i : ℕ) (v : Value) → remove (slice_set vs i v) i ≡ remove vs i
remove_set [] i v = refl
remove_set (x ∷ vs) zero v = refl
remove_set (x ∷ vs) (suc i) v = ap (λ ys. x ∷ ys) (remove_set vs i v)

-- the test of a look-up by a text
abbrev pub named : List ℕ → String Global → Ordering
named k = λ q. slice_cmp nat_cmp k (string_bytes q)

members_view-set_value_at : (o : Ordering) (e : Entry) (es fs : List Entry) (w : Value) (ms : Members) → members_document fs ≡ ms
    → members_document (cond (is_eq o) ((e.0, w) ∷ es) (e ∷ fs)) ≡ match_ordering o (member (string_bytes e.0) (value_document e.1) ms) (member (string_bytes e.0) (value_document w) (members_document es)) (member (string_bytes e.0) (value_document e.1) ms)
members_view-set_value_at o e es fs w ms h = grind arith

pub members_view-set_value : (k : List ℕ) (es : List Entry) (w : Value) → members_document (set_value (is_at (named k)) es w) ≡ edit_member (λ _. Some (value_document w)) k (members_document es)
members_view-set_value k [] w = refl
members_view-set_value k (e ∷ es) w = members_view-set_value_at (named k e.0) e es _ w _ (members_view-set_value k es w)

members_view-remove_entry_at : (o : Ordering) (e : Entry) (es fs : List Entry) (ms : Members) → members_document fs ≡ ms
    → members_document (cond (is_eq o) es (e ∷ fs)) ≡ match_ordering o (member (string_bytes e.0) (value_document e.1) ms) (members_document es) (member (string_bytes e.0) (value_document e.1) ms)
members_view-remove_entry_at o e es fs ms h = grind arith

pub members_view-remove_entry : (k : List ℕ) (es : List Entry) → members_document (remove_entry (is_at (named k)) es) ≡ edit_member (λ _. None) k (members_document es)
members_view-remove_entry k [] = refl
members_view-remove_entry k (e ∷ es) = members_view-remove_entry_at (named k e.0) e es _ _ (members_view-remove_entry k es)

remove_written_at : (o : Ordering) (k : List ℕ) (e : Entry) (es : List Entry) (w : Value) → named k e.0 ≡ o
    → remove_entry (is_at (named k)) (set_value (is_at (named k)) es w) ≡ remove_entry (is_at (named k)) es
    → remove_entry (is_at (named k)) (cond (is_eq o) ((e.0, w) ∷ es) (e ∷ set_value (is_at (named k)) es w)) ≡ cond (is_eq o) es (e ∷ remove_entry (is_at (named k)) es)
remove_written_at o k e es w is later = grind arith

pub remove_entry_set : (k : List ℕ) (es : List Entry) (w : Value) → remove_entry (is_at (named k)) (set_value (is_at (named k)) es w) ≡ remove_entry (is_at (named k)) es
remove_entry_set k [] w = refl
remove_entry_set k (e ∷ es) w = remove_written_at (named k e.0) k e es w refl (remove_entry_set k es w)
