-- The order in which the members in a tree are taken, made item by item and member by member.
use Rattle.std.specs.Prelude.{Box, box_value}
use Rattle.std.proofs.Common.{subst, ◌≡◌, true≢false, ℕ, ◌≤◌, zero, suc, List, [], ◌∷◌, ◌++◌, map, Some, option_map, Bool, true, ◌&&◌, bytes_eq, ◌⊎◌, inl, inr, length, get_or, ◌<◌, Vec, Global, IfSome, refl, sym, ap, ◌∙◌, arith, rules}
use Rattle.std.proofs.lemmas.Slice.Eq.{bytes_eq-Decides}
use Rattle.std.specs.List.{slice_get}
use Rattle.json.specs.Json as json
use Rattle.json.specs.Json.{Json}
use Rattle.json.specs.Find.{get_item}
use Rattle.json.specs.Value.{value_view, items_view, members_view}
use Rattle.json.specs.declared.value.Value.{Value}
use Rattle.json_trees.specs.OrderedTree.{is_ordered, are_items_ordered, are_members_ordered, items_of_tree, items_in_order, places, member_at}
use Rattle.jsonpath_nodes.specs.document.Find.{items_len}
use Rattle.json_trees.specs.TreeOrder.{each_meets, takes_items, takes_members, values_of, is_order}
use Rattle.json_trees.specs.declared.ordered_tree.order.Order.{Order, AsItStands, OfItems, OfMembers, the_lemmas}
use Rattle.json_trees.proofs.OrderedTreeLemmas.{Entry, and_left, and_right, both, first_ordered, rest_ordered}

-- ---- one level of an order

pub order_stands : (j : Json) → is_order AsItStands j ≡ is_ordered j
order_stands j = search (rules, the_lemmas)

pub order_of_items : (v : Vec Order Global) (j : Json) → is_order (OfItems v) j ≡ takes_items (map is_order v.items) j
order_of_items v j = search (rules, the_lemmas)

pub order_of_members : (found : Vec ℕ Global) (o : Box Order Global) (j : Json) → is_order (OfMembers found o) j ≡ takes_members found.items (is_order (box_value o)) j
order_of_members found o j = search (rules, the_lemmas)

-- ---- items

pub each_meets_more : {A : Type 0} (tests : List (Json → Bool)) (xs : List (Value A)) (test : Json → Bool) (v : Value A) → each_meets tests (items_view xs) ≡ true → test (value_view v) ≡ true
    → each_meets (tests ++ test ∷ []) (items_view (xs ++ v ∷ [])) ≡ true
each_meets_more [] [] test v h t = rw t refl
each_meets_more [] (x ∷ xs) test v h t = absurd (cc)
each_meets_more (u ∷ us) [] test v h t = absurd (cc)
each_meets_more (u ∷ us) (x ∷ xs) test v h t =
    both (u (value_view x)) (each_meets (us ++ test ∷ []) (items_view (xs ++ v ∷ []))) (and_left (u (value_view x)) (each_meets us (items_view xs)) h)
    (each_meets_more us xs test v (and_right (u (value_view x)) (each_meets us (items_view xs)) h) t)

-- ---- members

pub values_meet_more : {A : Type 0} (tests : List (Json → Bool)) (xs : List (Entry A)) (test : Json → Bool) (x : Entry A) → each_meets tests (values_of (members_view xs)) ≡ true → test (value_view x.1) ≡ true
    → each_meets (tests ++ test ∷ []) (values_of (members_view (xs ++ x ∷ []))) ≡ true
values_meet_more [] [] test x h t = rw t refl
values_meet_more [] (y ∷ ys) test x h t = absurd (cc)
values_meet_more (u ∷ us) [] test x h t = absurd (cc)
values_meet_more (u ∷ us) (y ∷ ys) test x h t =
    both (u (value_view y.1)) (each_meets (us ++ test ∷ []) (values_of (members_view (ys ++ x ∷ [])))) (and_left (u (value_view y.1)) (each_meets us (values_of (members_view ys))) h)
    (values_meet_more us ys test x (and_right (u (value_view y.1)) (each_meets us (values_of (members_view ys))) h) t)

pub values_ordered : (ms : json.Members) → are_members_ordered ms ≡ true → are_items_ordered (values_of ms) ≡ true
values_ordered json.no_members o = refl
values_ordered (json.member k j ms) o = both (is_ordered j) (are_items_ordered (values_of ms)) (first_ordered k j ms o) (values_ordered ms (rest_ordered k j ms o))

pub values_stand : (o : Order) (ms : json.Members) → o ≡ AsItStands → are_members_ordered ms ≡ true → is_order o (json.array (values_of ms)) ≡ true
values_stand o ms is h = ap (λ p. is_order p (json.array (values_of ms))) is ∙ order_stands (json.array (values_of ms)) ∙ values_ordered ms h

pub value_of_view : {A : Type 0} (xs : List (Entry A)) (i : ℕ) → get_item i (values_of (members_view xs)) ≡ option_map (λ x. value_view x.1) (slice_get xs i)
value_of_view [] i = refl
value_of_view (x ∷ xs) zero = refl
value_of_view (x ∷ xs) (suc i) = value_of_view xs i

pub member_of_view : {A : Type 0} (xs : List (Entry A)) (i : ℕ) → member_at i (members_view xs) ≡ option_map (λ x. (x.0.now, value_view x.1)) (slice_get xs i)
member_of_view [] i = refl
member_of_view (x ∷ xs) zero = refl
member_of_view (x ∷ xs) (suc i) = member_of_view xs i

-- ---- what the order of a value says of what is in it

pub object_as_it_stands : (o : Order) (ms : json.Members) → (o ≡ AsItStands) ⊎ ((x : Vec Order Global) × (o ≡ OfItems x)) → is_order o (json.object ms) ≡ true → (are_members_ordered ms ≡ true) × (o ≡ AsItStands)
object_as_it_stands o ms (inl is) h = (sym (ap (λ p. is_order p (json.object ms)) is ∙ order_stands (json.object ms)) ∙ h, is)
object_as_it_stands o ms (inr is) h = absurd (true≢false (sym h ∙ ap (λ p. is_order p (json.object ms)) is.1 ∙ order_of_items is.0 (json.object ms)))

-- the order in an item
pub item_meets : (orders : List Order) (js : json.Items) (i : ℕ) (d : Order) → d ≡ get_or orders i d → each_meets (map is_order orders) js ≡ true → IfSome (get_item i js) (λ j. is_order d j ≡ true)
item_meets [] json.no_items i d is h = tt
item_meets [] (json.item j js) i d is h = absurd (cc)
item_meets (p ∷ ps) json.no_items i d is h = absurd (cc)
item_meets (p ∷ ps) (json.item j js) zero d is h = ap (λ q. is_order q j) is ∙ and_left (is_order p j) (each_meets (map is_order ps) js) h
item_meets (p ∷ ps) (json.item j js) (suc i) d is h = item_meets ps js i d is (and_right (is_order p j) (each_meets (map is_order ps) js) h)

pub no_item : (orders : List Order) (js : json.Items) (i : ℕ) (P : Json → Type 0) → length orders ≤ i → each_meets (map is_order orders) js ≡ true → IfSome (get_item i js) P
no_item [] json.no_items i P past h = tt
no_item [] (json.item j js) i P past h = absurd (cc)
no_item (p ∷ ps) json.no_items i P past h = tt
no_item (p ∷ ps) (json.item j js) zero P past h = absurd (omega (arith, past))
no_item (p ∷ ps) (json.item j js) (suc i) P past h = no_item ps js i P (omega (arith, past)) (and_right (is_order p j) (each_meets (map is_order ps) js) h)

item_stands : (js : json.Items) (i : ℕ) → are_items_ordered js ≡ true → IfSome (get_item i js) (λ j. is_order AsItStands j ≡ true)
item_stands json.no_items i o = tt
item_stands (json.item j js) zero o = order_stands j ∙ and_left (is_ordered j) (are_items_ordered js) o
item_stands (json.item j js) (suc i) o = item_stands js i (and_right (is_ordered j) (are_items_ordered js) o)

is_no_array : (o : Order) (found : Vec ℕ Global) (p : Box Order Global) (js : json.Items) → o ≡ OfMembers found p → is_order o (json.array js) ≡ true → ⊥
is_no_array o found p js is h = absurd (true≢false (sym h ∙ ap (λ q. is_order q (json.array js)) is ∙ order_of_members found p (json.array js)))

-- an array's order that isn't made of its items' is that of each item
pub item_order : (o : Order) (js : json.Items) (i : ℕ) → (o ≡ AsItStands) ⊎ ((found : Vec ℕ Global) × (p : Box Order Global) × (o ≡ OfMembers found p)) → is_order o (json.array js) ≡ true → IfSome (get_item i js) (λ j. is_order o j ≡ true)
item_order o js i (inl is) h = subst (λ q. IfSome (get_item i js) (λ j. is_order q j ≡ true)) (sym is) (item_stands js i (sym (ap (λ q. is_order q (json.array js)) is ∙ order_stands (json.array js)) ∙ h))
item_order o js i (inr is) h = absurd (is_no_array o is.0 is.1 js is.2 h)

-- an object's order has the places of its members by their names, and the order in their values
pub order_of_object : (o : Order) (found : Vec ℕ Global) (p : Box Order Global) (ms : json.Members) → o ≡ OfMembers found p → is_order o (json.object ms) ≡ true
    → (found.items ≡ map (λ e. e.1) (places ms)) × (is_order (box_value p) (json.array (values_of ms)) ≡ true)
order_of_object o found p ms is h =
    let takes : (bytes_eq found.items (map (λ e. e.1) (places ms)) && is_order (box_value p) (json.array (values_of ms))) ≡ true = sym (ap (λ q. is_order q (json.object ms)) is ∙ order_of_members found p (json.object ms)) ∙ h in
    ((bytes_eq-Decides _ _).0 (and_left _ _ takes), and_right (bytes_eq found.items (map (λ e. e.1) (places ms))) _ takes)

-- ---- items

pub items_counted : {A : Type 0} (xs : List (Value A)) → items_len (items_of_tree (items_in_order (items_view xs))) ≡ length xs
items_counted [] = refl
items_counted (x ∷ xs) = ap suc (items_counted xs)

pub item_inside : {A : Type 0} (xs : List (Value A)) (i : ℕ) (j : Json) → Some j ≡ get_item i (items_view xs) → i < length xs
item_inside [] i j is = absurd (cc)
item_inside (x ∷ xs) zero j is = omega arith
item_inside (x ∷ xs) (suc i) j is = omega (arith, item_inside xs i j is)
