-- A value's document, level by level, and a `BTreeMap` beside the members that it stands for.
use Rattle.std.proofs.Common.{◌≡◌, ℕ, zero, suc, ◌<◌, ◌≤◌, List, [], ◌∷◌, length, get_or, Option, Some, None, option_map, Ordering, string_bytes, nat_cmp, refl, ap, ◌∙◌, arith}
use Rattle.std.specs.Cmp.Lexicographic.{slice_cmp}
use Rattle.std.specs.Borrow.{Bor}
use Rattle.std.specs.Map.{lookup}
use Rattle.std.specs.Ordering.{match_ordering}
use Rattle.std.specs.BTreeMap.{is_at}
use Rattle.serde_json.specs.declared.value.Value.{Value}
use Rattle.serde_json.specs.Data as kept
use Rattle.serde_json.specs.Find as kept_find
use Rattle.serde_json.specs.View.{view, items_view, members_view}
use Rattle.serde_json.proofs.Views as views
use Rattle.serde_json.proofs.Views.{Entry}
use Rattle.jsonpath_nodes.specs.document.Document.{Document}
use Rattle.jsonpath_nodes.specs.document.Find.{get, item_at, get_member, get_item, items_len}
use Rattle.jsonpath_nodes.specs.document.OfData.{document_of, items_of, members_of, value_document, items_document, members_document}

-- ---- what is found in data is found in their document

found : (o : Ordering) (rest : Option kept.Data) (e : kept.Data) (r : Option Document) → option_map document_of rest ≡ r → option_map document_of (match_ordering o rest (Some e) rest) ≡ match_ordering o r (Some (document_of e)) r
found o rest e r h = grind arith

member_of : (k : List ℕ) (ms : kept.Members) → option_map document_of (kept_find.get_member k ms) ≡ get_member k (members_of ms)
member_of k kept.no_members = refl
member_of k (kept.member l e ms) = found (slice_cmp nat_cmp k l) (kept_find.get_member k ms) e _ (member_of k ms)

item_of : (n : ℕ) (ds : kept.Items) → option_map document_of (kept_find.get_item n ds) ≡ get_item n (items_of ds)
item_of n kept.no_items = refl
item_of zero (kept.item d ds) = refl
item_of (suc n) (kept.item d ds) = item_of n ds

by_name : (k : List ℕ) (d : kept.Data) → option_map document_of (kept_find.get k d) ≡ get k (document_of d)
by_name k d = grind (arith, member_of)

by_index : (i : ℕ) (d : kept.Data) → option_map document_of (kept_find.at i d) ≡ item_at i (document_of d)
by_index i d = grind (arith, item_of)

-- ---- what is found in a value

shown : (r : Option (Bor Value)) → option_map (λ v. document_of (view v.now)) r ≡ option_map document_of (option_map (λ v. view v.now) r)
shown r = grind arith

pub value_by_name : (k : List ℕ) (v : Value) (r : Option (Bor Value)) → option_map (λ x. view x.now) r ≡ kept_find.get k (view v) → option_map (λ x. document_of (view x.now)) r ≡ get k (value_document v)
value_by_name k v r h = shown r ∙ ap (option_map document_of) h ∙ by_name k (view v)

pub value_by_index : (i : ℕ) (v : Value) (r : Option (Bor Value)) → option_map (λ x. view x.now) r ≡ kept_find.at i (view v) → option_map (λ x. document_of (view x.now)) r ≡ item_at i (value_document v)
value_by_index i v r h = shown r ∙ ap (option_map document_of) h ∙ by_index i (view v)

twice : (r : Option Value) → option_map value_document r ≡ option_map document_of (option_map view r)
twice r = grind arith

pub view-lookup : (name : List ℕ) (es : List Entry) → option_map value_document (lookup (is_at (λ k. slice_cmp nat_cmp name (string_bytes k))) es) ≡ get_member name (members_document es)
view-lookup name es = twice _ ∙ ap (option_map document_of) (views.view-lookup name es) ∙ member_of name (members_view es)

pub get_item_within : (vs : List Value) (i : ℕ) (d : Value) → i < length vs → Some (value_document (get_or vs i d)) ≡ get_item i (items_document vs)
get_item_within vs i d h = ap (option_map document_of) (views.get_item_within vs i d h) ∙ item_of i (items_view vs)

pub get_item_past : (vs : List Value) (i : ℕ) → length vs ≤ i → None ≡ get_item i (items_document vs)
get_item_past vs i h = ap (option_map document_of) (views.get_item_past vs i h) ∙ item_of i (items_view vs)

pub items_len-items_view : (vs : List Value) → items_len (items_document vs) ≡ length vs
items_len-items_view [] = refl
items_len-items_view (v ∷ vs) = ap suc (items_len-items_view vs)
