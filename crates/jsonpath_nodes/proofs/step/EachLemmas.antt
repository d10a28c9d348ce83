-- Single steps given for each of a list, and indexes in a row.
use Rattle.std.proofs.Common.{◌≡◌, ℕ, zero, suc, ◌+◌, ◌-◌, ◌<◌, ◌≤◌, List, [], ◌∷◌, ◌++◌, map, length, drop, true, refl, sym, ap, ◌∙◌, append-nil, drop_of_length-le, arith, is_some}
use Rattle.std.specs.Prelude.{flat_map}
use Rattle.std.proofs.lemmas.List.{map-append}
use Rattle.jsonpath_nodes.specs.document.Document.{Document, Items, no_items, item}
use Rattle.jsonpath_nodes.specs.document.Find.{items_len, get_item}
use Rattle.jsonpath_nodes.specs.place.Location.{Step, index, Location}
use Rattle.jsonpath_nodes.specs.step.Steps.{present, length_of, count_up}
use Rattle.jsonpath_nodes.proofs.place.SightLemmas.{Sight}

abbrev pub singles : List Step → List Location
singles ss = map (λ (s : Step). s ∷ []) ss

-- what a look shows where single steps lead that are given for each x
abbrev pub each_sights : {X : Type 0} → (X → List Step) → (Location → Sight) → List X → List Sight
each_sights f look xs = flat_map (λ x. map look (singles (f x))) xs

pub each_sights-flat_map : {X : Type 0} (f : X → List Step) (look : Location → Sight) (xs : List X) → each_sights f look xs ≡ map look (singles (flat_map f xs))
each_sights-flat_map f look [] = refl
each_sights-flat_map f look (x ∷ xs) = grind (arith, map-append, each_sights-flat_map f look xs)

pub each_done : {X : Type 0} (f : X → List Step) (look : Location → Sight) (i : ℕ) (xs : List X) (before out after : List Sight) → length xs ≤ i
    → out ++ each_sights f look (drop i xs) ≡ before ++ each_sights f look xs → each_sights f look xs ≡ after → out ≡ before ++ after
each_done {X} f look i xs before out after over kept is =
    let none : drop i xs ≡ [] = drop_of_length-le xs {i = i} over in
    sym (append-nil out) ∙ ap (λ (ws : List X). out ++ each_sights f look ws) (sym none) ∙ kept ∙ ap (λ (ss : List Sight). before ++ ss) is

-- ---- indexes

pub count_up-next : (i len : ℕ) → i < len → count_up i (len - i) ≡ i ∷ count_up (i + 1) (len - (i + 1))
count_up-next i len below = grind arith

item_there : (ds : Items) (i : ℕ) → i < items_len ds → is_some (get_item i ds) ≡ true
item_there no_items i below = absurd (omega arith)
item_there (item d ds) zero below = refl
item_there (item d ds) (suc i) below = item_there ds i (omega arith)

pub present-within : (d : Document) (i : ℕ) → i < length_of d → present d (index i) ≡ index i ∷ []
present-within d i below = grind (arith, item_there)
