-- Lists of locations by which locations are among them: neither their order nor repeats count.
use Rattle.std.specs.Prelude.{◌≡◌, ◌↔◌, Contains, List, [], ◌∷◌, ◌++◌, filter, if◌then◌else◌, Bool, false, Option, Some, None}
use Rattle.std.specs.List.{list_any}
use Rattle.jsonpath_nodes.specs.document.Document.{Document}
use Rattle.jsonpath_nodes.specs.place.Location.{Location}
use Rattle.jsonpath_nodes.specs.place.Order.{IsOrderedDocument, once_in_order}
use Rattle.jsonpath_nodes.specs.step.Steps.{Plain, step, all_below, each_once, flattened}
use Rattle.jsonpath_nodes.specs.update.Topmost.{begins_with}

-- the same locations are among them
abbrev pub SameMembers : List Location → List Location → Type 0
SameMembers ls ms = (l : Location) → Contains ls l ↔ Contains ms l

-- ---- the steps on a set

abbrev pub StepOfASet : Type 0
StepOfASet = (doc : Document) (p : Plain) (ls ms : List Location) → SameMembers ls ms → SameMembers (step doc p ls) (step doc p ms)

abbrev pub BelowOfASet : Type 0
BelowOfASet = (doc : Document) (ls ms : List Location) → SameMembers ls ms → SameMembers (all_below doc ls) (all_below doc ms)

abbrev pub CandidatesOfASet : Type 0
CandidatesOfASet = (doc : Document) (ls ms : List Location) → SameMembers ls ms → SameMembers (flattened doc ls) (flattened doc ms)

-- what passes a test, and whether some location does
abbrev pub KeptOfASet : Type 0
KeptOfASet = (test : Location → Bool) (ls ms : List Location) → SameMembers ls ms → SameMembers (filter test ls) (filter test ms)

abbrev pub SomeOfASet : Type 0
SomeOfASet = (test : Location → Bool) (ls ms : List Location) → SameMembers ls ms → list_any test ls ≡ list_any test ms

-- two lists one after the other
abbrev pub JoinedSets : Type 0
JoinedSets = (ls ms xs ys : List Location) → SameMembers ls ms → SameMembers xs ys → SameMembers (ls ++ xs) (ms ++ ys)

-- dropping repeats keeps the set
abbrev pub EachOnceKeepsMembers : Type 0
EachOnceKeepsMembers = (ls : List Location) → SameMembers (each_once ls) ls

-- in document order and each once, a set is one list
abbrev pub OneListOfASet : Type 0
OneListOfASet = (ls ms : List Location) → SameMembers ls ms → once_in_order ls ≡ once_in_order ms

-- ---- the topmost of a list

-- whether a location stands at or below the one that was kept last
abbrev pub is_at_or_below : Option Location → Location → Bool
is_at_or_below None l = false
is_at_or_below (Some m) l = begins_with m l

abbrev pub topmost_after : Option Location → List Location → List Location
topmost_after last [] = []
topmost_after last (l ∷ ls) = if is_at_or_below last l then topmost_after last ls else l ∷ topmost_after (Some l) ls

-- The list without those that stand at or below the one kept before them. In document order what stands at or below a location
-- follows it at once, so then none is left that stands below another.
abbrev pub topmost : List Location → List Location
topmost = topmost_after None

-- a descent from some locations finds what a descent from the topmost of them finds
abbrev pub BelowOfTheTopmost : Type 0
BelowOfTheTopmost = (doc : Document) (ls : List Location) → IsOrderedDocument doc → SameMembers (all_below doc (topmost ls)) (all_below doc ls)

abbrev pub DescentOfTheTopmost : Type 0
DescentOfTheTopmost = (doc : Document) (p : Plain) (ls : List Location) → IsOrderedDocument doc → SameMembers (step doc p (all_below doc (topmost ls))) (step doc p (all_below doc ls))
