-- The candidates of `..[?F]` without repeats from the start, where the filter's own `@` has a step.
use Rattle.std.specs.Prelude.{◌≡◌, ℕ, suc, List, [], ◌∷◌, ◌++◌, map}
use Rattle.jsonpath_nodes.specs.document.Document.{Document, null, boolean, number, string, array, object, Items, no_items, item, Members, no_members, member}
use Rattle.jsonpath_nodes.specs.place.Location.{name, index, Location, flat, flat_items}
use Rattle.jsonpath_nodes.specs.place.Order.{IsOrderedDocument}
use Rattle.jsonpath_nodes.specs.step.Separate.{IsDisjoint}
use Rattle.jsonpath_nodes.specs.step.Steps.{from_each, every, step, all_below, flattened}

-- what is no array and is reached from members through arrays alone
abbrev pub flat_members : Members → List Location
flat_members no_members = []
flat_members (member k d ms) = map (λ l. name k ∷ l) (flat d) ++ flat_members ms

-- what is no array and is reached through arrays alone from the members of each object at or below the value, each object before
-- those below it
abbrev mutual
  pub in_objects : Document → List Location
  in_objects null = []
  in_objects (boolean b) = []
  in_objects (number n) = []
  in_objects (string s) = []
  in_objects (array ds) = in_objects_items 0 ds
  in_objects (object ms) = flat_members ms ++ in_objects_members ms

  pub in_objects_items : ℕ → Items → List Location
  in_objects_items n no_items = []
  in_objects_items n (item d ds) = map (λ l. index n ∷ l) (in_objects d) ++ in_objects_items (suc n) ds

  pub in_objects_members : Members → List Location
  in_objects_members no_members = []
  in_objects_members (member k d ms) = map (λ l. name k ∷ l) (in_objects d) ++ in_objects_members ms

-- what an array holds so; nothing for other values
abbrev pub in_array : Document → List Location
in_array null = []
in_array (boolean b) = []
in_array (number n) = []
in_array (string s) = []
in_array (array ds) = flat_items 0 ds
in_array (object ms) = []

abbrev pub candidates_below : Document → List Location
candidates_below d = in_array d ++ in_objects d

-- the candidates after `..*` from locations of a document, none of which stands below another, are met in a descent from one after the other: none is met from two
abbrev pub DisjointInOneDescent : Type 0
DisjointInOneDescent = (doc : Document) (ls : List Location) → IsOrderedDocument doc → IsDisjoint ls → flattened doc (step doc every (all_below doc ls)) ≡ from_each doc candidates_below ls
