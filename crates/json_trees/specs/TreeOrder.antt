-- When an order takes the members of each object in a tree by their names, of a name that comes again the last one.
use Rattle.std.specs.Prelude.{ℕ, List, [], ◌∷◌, drop, map, take, Bool, true, false, ◌&&◌, box_value}
use Rattle.std.specs.Borrow.{Bor}
use Rattle.std.specs.BTreeMap.{insert_entry}
use Rattle.std.specs.Cmp.Lexicographic.{slice_cmp}
use Rattle.std.specs.Ordering.{nat_cmp}
use Rattle.std.specs.Str.{bytes_eq}
use Rattle.json.specs.Json.{Json, null, boolean, number, string, array, object, Items, no_items, item, Members, no_members, member}
use Rattle.json_trees.specs.OrderedTree.{is_ordered, places}
use Rattle.json_trees.specs.declared.ordered_tree.order.Order.{Order, fold-Order}
use Rattle.json_trees.specs.declared.ordered_tree.order.Order.TheOpen.{Order-F}

-- names as bytes, each with what it names
abbrev pub by_names : {V : Type 0} → List (Bor (List ℕ) × V) → List (List ℕ × V)
by_names es = map (λ e. (e.0.now, e.1)) es

-- these values put by their names, one after another, among those found already; of a name that comes again the last value stays
abbrev pub put_each : {V : Type 0} → List (List ℕ × V) → List (List ℕ × V) → List (List ℕ × V)
put_each [] found = found
put_each (e ∷ es) found = put_each es (insert_entry (slice_cmp nat_cmp) found e.0 e.1)

-- those from a place on put by their names among the ones before it
abbrev pub put_from : {V : Type 0} → ℕ → List (Bor (List ℕ) × V) → List (List ℕ × V)
put_from n es = put_each (by_names (drop n es)) (by_names (take n es))

-- each item meets its test, and there is one for each
abbrev pub each_meets : List (Json → Bool) → Items → Bool
each_meets [] no_items = true
each_meets [] (item j js) = false
each_meets (test ∷ tests) no_items = false
each_meets (test ∷ tests) (item j js) = test j && each_meets tests js

abbrev pub takes_items : List (Json → Bool) → Json → Bool
takes_items tests null = false
takes_items tests (boolean b) = false
takes_items tests (number s) = false
takes_items tests (string s) = false
takes_items tests (array js) = each_meets tests js
takes_items tests (object ms) = false

-- the values of members, as an array's items
abbrev pub values_of : Members → Items
values_of no_members = no_items
values_of (member k j ms) = item j (values_of ms)

-- the places are those of the members by their names, and the values meet the test
abbrev pub takes_members : List ℕ → (Json → Bool) → Json → Bool
takes_members found test null = false
takes_members found test (boolean b) = false
takes_members found test (number s) = false
takes_members found test (string s) = false
takes_members found test (array js) = false
takes_members found test (object ms) = bytes_eq found (map (λ e. e.1) (places ms)) && test (array (values_of ms))

abbrev pub takes_step : Order-F (Json → Bool) → Json → Bool
takes_step Order-F.AsItStands = is_ordered
takes_step (Order-F.OfItems orders) = takes_items orders.items
takes_step (Order-F.OfMembers found test) = takes_members found.items (box_value test)

-- the order is the tree's
abbrev pub is_order : Order → Json → Bool
is_order = fold-Order (Json → Bool) takes_step
