-- What stands at a location of an exact tree stands in its document, as the document of what stands there.
use Rattle.std.proofs.Common.{◌≡◌, true≢false, ℕ, zero, suc, List, [], ◌∷◌, Option, Some, None, option_map, option_and_then, MatchOption, Bool, true, false, cond, bytes_eq, Ordering, Less, Equal, Greater, nat_cmp, is_eq, refl, sym, ap, ◌∙◌}
use Rattle.std.specs.Cmp.Lexicographic.{slice_cmp}
use Rattle.std.specs.Ordering.{match_ordering}
use Rattle.std.proofs.lemmas.Cmp.{nat_list_cmp_total, tied_itself}
use Rattle.std.proofs.lemmas.Map.Text.{is_eq-slice_cmp}
use Rattle.std.proofs.lemmas.Slice.Eq.{bytes_eq-Decides}
use Rattle.json.specs.Json as json
use Rattle.json.specs.Json.{Json}
use Rattle.json.specs.Find as exact
use Rattle.json.specs.Find.{later_or}
use Rattle.jsonpath_nodes.specs.document.Document.{Document, no_items, item}
use Rattle.jsonpath_nodes.specs.document.Find.{get, get_member, get_item, item_at}
use Rattle.jsonpath_nodes.specs.place.Location.{Step, name, index, Location, child, at}
use Rattle.json_trees.specs.ExactAt.{exact_child, exact_at}
use Rattle.json_trees.specs.ExactDocument.{exact_document}
use Rattle.json_trees.specs.OrderedTree.{document_of_tree, items_of_tree, members_of_tree, put_in_order, in_order, items_in_order, members_in_order, items_from}
use Rattle.json_trees.specs.DocumentPlaces.{DocumentStandsAt}

-- ---- a member put in order

same_text : (k : List ℕ) → slice_cmp nat_cmp k k ≡ Equal
same_text k = tied_itself nat_list_cmp_total k

either : (o : Ordering) (a b : Option Document) → is_eq o ≡ false → match_ordering o a b a ≡ a
either Less a b e = refl
either Equal a b e = absurd (true≢false e)
either Greater a b e = refl

differ : (xs ys : List ℕ) (b : Bool) → bytes_eq xs ys ≡ b → (xs ≡ ys → ⊥) → b ≡ false
differ xs ys true e other = absurd (other ((bytes_eq-Decides xs ys).0 e))
differ xs ys false e other = refl

skips : (q k : List ℕ) (j : Json) (ms : json.Members) → (q ≡ k → ⊥) → get_member q (members_of_tree (json.member k j ms)) ≡ get_member q (members_of_tree ms)
skips q k j ms other = either (slice_cmp nat_cmp q k) _ _ (is_eq-slice_cmp q k ∙ differ q k _ refl other)

put_at : (o : Ordering) (k l : List ℕ) (j i : Json) (ms : json.Members) → slice_cmp nat_cmp k l ≡ o → get_member k (members_of_tree (put_in_order k j ms)) ≡ Some (document_of_tree j)
    → get_member k (members_of_tree (match_ordering o (json.member k j (json.member l i ms)) (json.member l j ms) (json.member l i (put_in_order k j ms)))) ≡ Some (document_of_tree j)
put_at Less k l j i ms is later = rw (same_text k) refl
put_at Equal k l j i ms is later = rw is refl
put_at Greater k l j i ms is later = rw is later

-- what was put at a name is found there
put_here : (k : List ℕ) (j : Json) (ms : json.Members) → get_member k (members_of_tree (put_in_order k j ms)) ≡ Some (document_of_tree j)
put_here k j json.no_members = rw (same_text k) refl
put_here k j (json.member l i ms) = put_at _ k l j i ms refl (put_here k j ms)

other_at : (o : Ordering) (q k l : List ℕ) (j i : Json) (ms : json.Members) → slice_cmp nat_cmp k l ≡ o → (q ≡ k → ⊥) → get_member q (members_of_tree (put_in_order k j ms)) ≡ get_member q (members_of_tree ms)
    → get_member q (members_of_tree (match_ordering o (json.member k j (json.member l i ms)) (json.member l j ms) (json.member l i (put_in_order k j ms)))) ≡ get_member q (members_of_tree (json.member l i ms))
other_at Less q k l j i ms is other later = skips q k j (json.member l i ms) other
other_at Equal q k l j i ms is other later =
    let same : k ≡ l = (bytes_eq-Decides k l).0 (sym (is_eq-slice_cmp k l) ∙ ap is_eq is) in
    let apart = λ (h : q ≡ l). other (h ∙ sym same) in
    skips q l j ms apart ∙ sym (skips q l i ms apart)
other_at Greater q k l j i ms is other later = ap (λ r. match_ordering (slice_cmp nat_cmp q l) r (Some (document_of_tree i)) r) later

-- the other names keep their values
put_elsewhere : (q k : List ℕ) (j : Json) (ms : json.Members) → (q ≡ k → ⊥) → get_member q (members_of_tree (put_in_order k j ms)) ≡ get_member q (members_of_tree ms)
put_elsewhere q k j json.no_members other = skips q k j json.no_members other
put_elsewhere q k j (json.member l i ms) other = other_at _ q k l j i ms refl other (put_elsewhere q k j ms other)

put_found : (b : Bool) (k q : List ℕ) (j : Json) (ms : json.Members) → bytes_eq k q ≡ b → get_member q (members_of_tree (put_in_order k j ms)) ≡ cond b (Some (document_of_tree j)) (get_member q (members_of_tree ms))
put_found true k q j ms e = rw (← (bytes_eq-Decides k q).0 e) (put_here k j ms)
put_found false k q j ms e = put_elsewhere q k j ms (λ same. absurd (true≢false (sym ((bytes_eq-Decides k q).1 (sym same)) ∙ e)))

-- ---- members put one after another: of each name the last stays

-- the document of what the members have at a name, or what stood there before them
abbrev or_before : Option Json → Option Document → Option Document
or_before None before = before
or_before (Some j) before = Some (exact_document j)

later : (o : Option Json) (b : Bool) (j : Json) (before : Option Document) → or_before o (cond b (Some (exact_document j)) before) ≡ or_before (later_or o (cond b (Some j) None)) before
later None true j before = refl
later None false j before = refl
later (Some k) b j before = refl

pub members_found : (q : List ℕ) (ms found : json.Members) → get_member q (members_of_tree (members_in_order ms found)) ≡ or_before (exact.get_member q ms) (get_member q (members_of_tree found))
members_found q json.no_members found = refl
members_found q (json.member k j ms) found =
    members_found q ms (put_in_order k (in_order j) found)
    ∙ ap (or_before (exact.get_member q ms)) (put_found (bytes_eq k q) k q (in_order j) found refl)
    ∙ later (exact.get_member q ms) (bytes_eq k q) j (get_member q (members_of_tree found))

pub before_none : (o : Option Json) → or_before o None ≡ option_map exact_document o
before_none None = refl
before_none (Some j) = refl

-- ---- what is found, as a document

pub map_twice : {A B C : Type 0} (f : A → B) (g : B → C) (o : Option A) → option_map (λ x. g (f x)) o ≡ option_map g (option_map f o)
map_twice f g None = refl
map_twice f g (Some x) = refl

-- ---- one item after another

pub next_item_in_order : (js : json.Items) (i : ℕ)
    → MatchOption (exact.get_item i js) (items_from i (items_of_tree (items_in_order js)) ≡ no_items)
    (λ j. items_from i (items_of_tree (items_in_order js)) ≡ item (exact_document j) (items_from (suc i) (items_of_tree (items_in_order js))))
next_item_in_order json.no_items zero = refl
next_item_in_order json.no_items (suc i) = refl
next_item_in_order (json.item j js) zero = refl
next_item_in_order (json.item j js) (suc i) = next_item_in_order js i

-- ---- one step, and any number of them

pub items_found : (i : ℕ) (js : json.Items) → get_item i (items_of_tree (items_in_order js)) ≡ option_map exact_document (exact.get_item i js)
items_found i json.no_items = refl
items_found zero (json.item j js) = refl
items_found (suc i) (json.item j js) = items_found i js

pub name_found : (q : List ℕ) (j : Json) → get q (exact_document j) ≡ option_map exact_document (exact.get q j)
name_found q json.null = refl
name_found q (json.boolean b) = refl
name_found q (json.number s) = refl
name_found q (json.string s) = refl
name_found q (json.array js) = refl
name_found q (json.object ms) = members_found q ms json.no_members ∙ before_none (exact.get_member q ms)

pub index_found : (i : ℕ) (j : Json) → item_at i (exact_document j) ≡ option_map exact_document (exact.at i j)
index_found i json.null = refl
index_found i (json.boolean b) = refl
index_found i (json.number s) = refl
index_found i (json.string s) = refl
index_found i (json.array js) = items_found i js
index_found i (json.object ms) = refl

child_found : (s : Step) (j : Json) → child s (exact_document j) ≡ option_map exact_document (exact_child s j)
child_found (name q) j = name_found q j
child_found (index i) j = index_found i j

through : (l : Location) (o : Option Json) → ((j : Json) → DocumentStandsAt j l) → option_and_then (λ c. at c l) (option_map exact_document o) ≡ option_map exact_document (option_and_then (λ c. exact_at c l) o)
through l None further = refl
through l (Some j) further = further j

pub document_stands : (l : Location) (j : Json) → DocumentStandsAt j l
document_stands [] j = refl
document_stands (s ∷ l) j = ap (option_and_then (λ c. at c l)) (child_found s j) ∙ through l (exact_child s j) (document_stands l)
