-- One child by its name or its index.
use Rattle.std.proofs.Common.{◌≡◌, ℕ, List, zero, suc, ◌<◌, ◌≤◌, [], ◌∷◌, ◌++◌, map, Some, None, Bool, min, refl, arith, rules}
use Rattle.std.specs.Prelude.{pos, nat_lt}
use Rattle.std.proofs.lemmas.Bool.{ltb-false}
use Rattle.jsonpath_nodes.specs.document.Document.{Document, Items, no_items, item}
use Rattle.jsonpath_nodes.specs.document.Find.{items_len, get_item, item_at}
use Rattle.jsonpath_nodes.specs.place.Location.{index, Location}
use Rattle.jsonpath_nodes.specs.place.SpotPlace.{location_at, look_from}
use Rattle.jsonpath_nodes.specs.step.Steps.{nth, single_steps}
use Rattle.jsonpath_nodes.specs.declared.place.trail.Trail as trail
use Rattle.jsonpath_nodes.specs.declared.place.trail.Trail.{Item}

pub at-Item : {N : Type 0} (bytes : N → List ℕ) (parent : _) (i : ℕ) → location_at bytes (Item parent i) ≡ location_at bytes parent.value ++ index i ∷ []
at-Item bytes parent i = search (rules, trail.the_lemmas)

item_within : (i : ℕ) (ds : Items) (c : Document) → get_item i ds ≡ Some c → i < items_len ds
item_within i no_items c is = cc
item_within zero (item d ds) c is = omega arith
item_within (suc i) (item d ds) c is = let later : i < items_len ds = item_within i ds c is in omega arith

-- an index that is past the end leads nowhere
pub past_end : (i : ℕ) (ds : Items) → items_len ds ≤ i → get_item i ds ≡ None
past_end i no_items h = refl
past_end zero (item d ds) h = absurd (omega arith)
past_end (suc i) (item d ds) h = past_end i ds (omega arith)

least_item : (i : ℕ) (ds : Items) → get_item i ds ≡ None → (b : Bool) → nat_lt i (items_len ds) ≡ b → get_item (min i (items_len ds)) ds ≡ None
least_item i ds none b below = grind (arith, ltb-false, past_end)

pub nth_there : (i : ℕ) (l : Location) (d c : Document) → item_at i d ≡ Some c → map (look_from l d) (single_steps (nth (pos i)) d) ≡ (l ++ index i ∷ [], Some c) ∷ []
nth_there i l d c is = grind (arith, item_within)

pub nth_nowhere : (i : ℕ) (l : Location) (d : Document) → item_at i d ≡ None → map (look_from l d) (single_steps (nth (pos i)) d) ≡ []
nth_nowhere i l d none = grind (arith, least_item)
