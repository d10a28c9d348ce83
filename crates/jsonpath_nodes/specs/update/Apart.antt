-- Locations that lie beside one another.
use Rattle.std.specs.Prelude.{◌≡◌, ⊤, List, [], ◌∷◌, Bool, true, false, not, ◌||◌, Some, IsSome, MatchOption}
use Rattle.std.specs.List.{AllByRecursion}
use Rattle.jsonpath_nodes.specs.document.Document.{Document}
use Rattle.jsonpath_nodes.specs.place.Location.{Location, at}
use Rattle.jsonpath_nodes.specs.update.Run.{Asked}
use Rattle.jsonpath_nodes.specs.update.Update.{target}
use Rattle.jsonpath_nodes.specs.update.Topmost.{same_step}

-- neither of two locations is a beginning of the other: they differ at some step
abbrev pub apart : Location → Location → Bool
apart [] l = false
apart (t ∷ m) [] = false
apart (t ∷ m) (s ∷ l) = not (same_step s t) || apart m l

-- m is apart from l, or l is the root
abbrev pub apart_below_root : Location → Location → Bool
apart_below_root m [] = true
apart_below_root m (s ∷ l) = apart m (s ∷ l)

-- each of two locations among them is apart from the other, or is the root
abbrev pub AllApart : List Location → Type 0
AllApart [] = ⊤
AllApart (l ∷ ls) = AllByRecursion (λ m. (apart_below_root l m ≡ true) × (apart_below_root m l ≡ true)) ls × AllApart ls

-- each answer stands at its location; what was asked tells what stood there before, and the answer
abbrev pub IsPlaced : List Location → Document → List Asked → Document → Type 0
IsPlaced [] before asked after = asked ≡ []
IsPlaced (l ∷ ls) before asked after =
    MatchOption (target l before) (IsPlaced ls before asked after)
    (λ d. (answer : Document) × (more : List Asked) × (asked ≡ (d, Some answer) ∷ more) × (at after l ≡ Some answer) × IsPlaced ls before more after)

-- no answer of a run takes anything away
abbrev pub NothingTakenAway : List Asked → Type 0
NothingTakenAway asked = AllByRecursion (λ p. IsSome p.1) asked

-- m is apart from each of the locations that is not the root
abbrev pub IsApartFrom : Location → List Location → Type 0
IsApartFrom m ls = AllByRecursion (λ l. apart_below_root m l ≡ true) ls
