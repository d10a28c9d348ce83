-- Where what is selected stands, and that it can be written.
use Rattle.std.proofs.Common.{◌≡◌, List, [], ◌∷◌, true, map, Option, Some, None, option_and_then, sym, refl, ap, subst, ◌∙◌}
use Rattle.json.specs.Json.{Json}
use Rattle.json.specs.Tree.{HasNumbers}
use Rattle.json.proofs.Numbered.{HasNumbers-at, HasNumbers-get}
use Rattle.jsonpath_nodes.specs.document.Document.{Document}
use Rattle.jsonpath_nodes.specs.place.Location.{Step, name, index, Location}
use Rattle.jsonpath_nodes.specs.place.Mark.{look_kept, shown, MarksStandAt}
use Rattle.json_trees.specs.ExactAt.{exact_child, exact_at}
use Rattle.jpath_core.specs.Nodes.{Node, location_of, value_of}

-- ---- what is selected can be written

numbers_through : (o : Option Json) (l : Location) (part : Json) → ((j : Json) → Some j ≡ o → HasNumbers j)
    → ((j : Json) → HasNumbers j → Some part ≡ exact_at j l → HasNumbers part) → Some part ≡ option_and_then (λ c. exact_at c l) o → HasNumbers part
numbers_through None l part here further e = absurd (cc)
numbers_through (Some j) l part here further e = further j (here j refl) e

child_has_numbers : (s : Step) (j part : Json) → HasNumbers j → Some part ≡ exact_child s j → HasNumbers part
child_has_numbers (name k) j part h e = HasNumbers-get k j part h e
child_has_numbers (index i) j part h e = HasNumbers-at i j part h e

pub has_numbers_at : (l : Location) (j part : Json) → HasNumbers j → Some part ≡ exact_at j l → HasNumbers part
has_numbers_at [] j part h e = subst HasNumbers (ap (some_or j) (sym e)) h
  where
    some_or : Json → Option Json → Json
    some_or d None = d
    some_or d (Some k) = k
has_numbers_at (s ∷ l) j part h e = numbers_through (exact_child s j) l part (λ k. child_has_numbers s j k h) (λ k. has_numbers_at l k part) e

-- ---- where nodes stand

nodes_first : (nodes : List Node) → map (λ p. p.0) (map (shown location_of value_of) nodes) ≡ map location_of nodes
nodes_first [] = refl
nodes_first (n ∷ nodes) = ap (λ ls. location_of n ∷ ls) (nodes_first nodes)

looked_first : (doc : Document) (ls : List Location) → map (λ p. p.0) (map (look_kept true doc) ls) ≡ ls
looked_first doc [] = refl
looked_first doc (l ∷ ls) = ap (λ ms. l ∷ ms) (looked_first doc ls)

pub locations_of : (doc : Document) (ls : List Location) (nodes : List Node) → MarksStandAt true location_of value_of doc ls nodes → map location_of nodes ≡ ls
locations_of doc ls nodes e = sym (nodes_first nodes) ∙ ap (map (λ p. p.0)) e ∙ looked_first doc ls
