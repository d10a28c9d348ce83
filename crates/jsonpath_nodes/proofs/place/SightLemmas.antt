-- What is seen from a spot, child by child.
use Rattle.std.proofs.Common.{◌≡◌, ℕ, List, [], ◌∷◌, ◌++◌, map, Option, Some, refl, sym, ap, ap₂, ◌∙◌, append_assoc}
use Rattle.std.specs.Prelude.{option_and_then}
use Rattle.std.proofs.lemmas.List.{map-append}
use Rattle.jsonpath_nodes.specs.document.Document.{Document, array, object, Items, Members}
use Rattle.jsonpath_nodes.specs.place.Location.{Step, Location, child, at}
use Rattle.jsonpath_nodes.specs.step.Steps.{single_steps, every}
use Rattle.jsonpath_nodes.specs.place.SpotPlace.{look_from}
use Rattle.jsonpath_nodes.specs.place.Order.{NamesAscend}
use Rattle.jsonpath_nodes.proofs.step.ChildLemmas.{Kid, item_kids, member_kids, through, itself, indexes-kids, names-kids, AreAt, all_items_at, members_at}

abbrev pub Sight : Type 0
Sight = Location × Option Document

-- ---- one child

-- what lies below a child is seen from it as from its parent
pub look_from-child : (l : Location) (d : Document) (s : Step) (c : Document) (ms : List Location) → child s d ≡ Some c → map (look_from l d) (map (λ m. s ∷ m) ms) ≡ map (look_from (l ++ s ∷ []) c) ms
look_from-child l d s c [] is = refl
look_from-child l d s c (m ∷ ms) is =
    let here : look_from l d (s ∷ m) ≡ look_from (l ++ s ∷ []) c m =
    ap₂ (λ (x : Location) (o : Option Document). (x, o)) (sym (append_assoc l (s ∷ []) m)) (ap (option_and_then (λ x. at x m)) is) in
    ap₂ (λ (x : Sight) (xs : List Sight). x ∷ xs) here (look_from-child l d s c ms is)

-- ---- f at each child in turn

-- what f sees from the children on
abbrev pub kid_sights : (Document → List Location) → Location → List Kid → List Sight
kid_sights f l [] = []
kid_sights f l (k ∷ ks) = map (look_from (l ++ k.0 ∷ []) k.1) (f k.1) ++ kid_sights f l ks

abbrev pub item_sights : (Document → List Location) → Location → ℕ → Items → List Sight
item_sights f l n ds = kid_sights f l (item_kids n ds)

abbrev pub member_sights : (Document → List Location) → Location → Members → List Sight
member_sights f l ms = kid_sights f l (member_kids ms)

through-sights : (f : Document → List Location) (l : Location) (d : Document) (ks : List Kid) → AreAt d ks → map (look_from l d) (through f ks) ≡ kid_sights f l ks
through-sights f l d [] h = refl
through-sights f l d (k ∷ ks) h =
    map-append (look_from l d) (map (λ m. k.0 ∷ m) (f k.1)) (through f ks)
    ∙ ap₂ (λ (x y : List Sight). x ++ y) (look_from-child l d k.0 k.1 (f k.1) h.0) (through-sights f l d ks h.1)

pub items-sights : (f : Document → List Location) (l : Location) (all : Items) → map (look_from l (array all)) (through f (item_kids 0 all)) ≡ item_sights f l 0 all
items-sights f l all = through-sights f l (array all) (item_kids 0 all) (all_items_at all)

pub members-sights : (f : Document → List Location) (l : Location) (ms : Members) → NamesAscend ms
    → map (look_from l (object ms)) (through f (member_kids ms)) ≡ member_sights f l ms
members-sights f l ms h = through-sights f l (object ms) (member_kids ms) (members_at ms h)

-- ---- as the contracts say them

pub items_children-sights : (l : Location) (all : Items) → item_sights itself l 0 all ≡ map (look_from l (array all)) (single_steps every (array all))
items_children-sights l all = sym (items-sights itself l all) ∙ ap (map (look_from l (array all))) (sym (indexes-kids 0 all))

pub members_children-sights : (l : Location) (ms : Members) → NamesAscend ms → member_sights itself l ms ≡ map (look_from l (object ms)) (single_steps every (object ms))
members_children-sights l ms h = sym (members-sights itself l ms h) ∙ ap (map (look_from l (object ms))) (sym (names-kids ms))
