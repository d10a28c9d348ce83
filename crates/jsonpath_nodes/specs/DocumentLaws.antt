-- Laws of documents, of document order and of updates.
use Rattle.std.specs.Prelude.{◌≡◌, ◌↔◌, List, ◌∷◌, Contains, Option, Some, None, IsSome, true}
use Rattle.std.specs.List.Sorted.{IsStrictlySortedBy}
use Rattle.jsonpath_nodes.specs.document.Document.{Document, null}
use Rattle.jsonpath_nodes.specs.place.Location.{Step, Location, at, below, location_cmp}
use Rattle.jsonpath_nodes.specs.place.Order.{IsOrderedDocument, once_in_order}
use Rattle.jsonpath_nodes.specs.update.Run.{Asked, IsRun, update_each, update_each_back}
use Rattle.jsonpath_nodes.specs.update.Topmost.{under, nulled, taken, IsTopmost}
use Rattle.jsonpath_nodes.specs.update.Update.{target, update}
use Rattle.jsonpath_nodes.specs.update.Apart.{apart_below_root, AllApart, NothingTakenAway, IsApartFrom, IsPlaced}

-- the locations at or below the root of a document are exactly those where it has a value
abbrev pub BelowIsAll : Type 0
BelowIsAll = (doc : Document) (l : Location) → IsOrderedDocument doc → IsSome (at doc l) ↔ Contains (below doc) l

-- they stand in document order, each once
abbrev pub BelowAscends : Type 0
BelowAscends = (doc : Document) → IsOrderedDocument doc → IsStrictlySortedBy location_cmp (below doc)

-- each once and in document order: strictly ascending, with the same members
abbrev pub OnceInOrderAscends : Type 0
OnceInOrderAscends = (ls : List Location) → IsStrictlySortedBy location_cmp (once_in_order ls)

abbrev pub OnceInOrderKeepsMembers : Type 0
OnceInOrderKeepsMembers = (ls : List Location) (l : Location) → Contains (once_in_order ls) l ↔ Contains ls l

-- ---- nulling and taking away

-- null stands at each topmost location below the root that leads somewhere
abbrev pub NullsTopmost : Type 0
NullsTopmost = (doc e : Document) (ls : List Location) (s : Step) (l : Location) → IsTopmost l (under s ls) → at doc (s ∷ l) ≡ Some e → at (nulled ls doc) (s ∷ l) ≡ Some null

-- what lies beside all of the locations stays
abbrev pub NullsNothingElse : Type 0
NullsNothingElse = (doc : Document) (ls : List Location) (m : Location) → IsApartFrom m ls → at (nulled ls doc) m ≡ at doc m

-- nulling is nulling at each location in turn, in any order
abbrev pub NullsInTurn : Type 0
NullsInTurn = (doc : Document) (ls : List Location) → update_each (Some null) ls doc ≡ nulled ls doc

-- taking at once is taking at each location in turn, from the last one back to the first
abbrev pub TakesFromTheBack : Type 0
TakesFromTheBack = (doc : Document) (ls : List Location) → IsStrictlySortedBy location_cmp ls → update_each_back None ls doc ≡ taken ls doc

-- a value that is put below the root, where something stands, stands there
abbrev pub PutsThere : Type 0
PutsThere = (d e : Document) (l : Location) (doc : Document) → target l doc ≡ Some e → at (update l (Some d) doc) l ≡ Some d

-- what lies beside stays
abbrev pub PutsNothingElse : Type 0
PutsNothingElse = (d : Document) (m l : Location) (doc : Document) → apart_below_root m l ≡ true → at (update l (Some d) doc) m ≡ at doc m

-- where nothing stands below the root, nothing changes
abbrev pub ChangesNothing : Type 0
ChangesNothing = (answer : Option Document) (l : Location) (doc : Document) → target l doc ≡ None → update l answer doc ≡ doc

-- order and repeats do not matter
abbrev pub SetsAlone : Type 0
SetsAlone = (doc : Document) (ls ms : List Location) → ((l : Location) → Contains ls l ↔ Contains ms l) → (nulled ls doc ≡ nulled ms doc) × (taken ls doc ≡ taken ms doc)

-- ---- runs

-- where no location lies below another and no answer takes away, each answer stands in its place, and what lies beside stays
abbrev pub RunsInPlace : Type 0
RunsInPlace = (ls : List Location) (before : Document) (asked : List Asked) (after : Document) → AllApart ls → NothingTakenAway asked → IsRun ls before asked after
    → IsPlaced ls before asked after × ((m : Location) → IsApartFrom m ls → at after m ≡ at before m)
