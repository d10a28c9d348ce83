-- From what is seen from each spot to what stands where in a document.
use Rattle.std.proofs.Common.{◌≡◌, ℕ, List, [], ◌∷◌, ◌++◌, ◌≤◌, map, length, Option, Some, refl, arith}
use Rattle.std.specs.Prelude.{option_and_then}
use Rattle.jsonpath_nodes.specs.document.Document.{Document}
use Rattle.jsonpath_nodes.specs.place.Location.{Location, child, at}
use Rattle.jsonpath_nodes.specs.step.Steps.{single_steps, named}
use Rattle.jsonpath_nodes.specs.place.SpotPlace.{look, look_from}

at-append_from : (o : Option Document) (l m : Location) → ((c : Document) → at c (l ++ m) ≡ option_and_then (λ d. at d m) (at c l))
    → option_and_then (λ c. at c (l ++ m)) o ≡ option_and_then (λ d. at d m) (option_and_then (λ c. at c l) o)
at-append_from o l m h = grind arith

pub at-append : (l m : Location) (d : Document) → at d (l ++ m) ≡ option_and_then (λ c. at c m) (at d l)
at-append [] m d = refl
at-append (s ∷ l) m d = at-append_from (child s d) l m (at-append l m)

pub look-below : (doc : Document) (l : Location) (d : Document) (ms : List Location) → at doc l ≡ Some d → map (look_from l d) ms ≡ map (look doc) (map (λ m. l ++ m) ms)
look-below doc l d [] is = refl
look-below doc l d (m ∷ ms) is = grind (arith, at-append, look-below doc l d ms is)

-- a name leads to one child at most
pub named_few : (k : List ℕ) (d : Document) → length (single_steps (named k) d) ≤ 1
named_few k d = grind arith
