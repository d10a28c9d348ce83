-- Lists of locations with no repeats, and lists whose candidates hold none.
use Rattle.std.specs.Prelude.{◌≡◌, List, [], ◌∷◌, Bool, true, false, not, ◌&&◌, ◌||◌, length, filter, ℤ, pos, Option, Some, ℕ}
use Rattle.std.specs.Cmp.Lexicographic.{slice_cmp}
use Rattle.std.specs.Int.Signed.{◌≤ℤ◌}
use Rattle.std.specs.List.{AllByRecursion, IsDistinct}
use Rattle.std.specs.List.Sorted.{IsStrictlySortedBy}
use Rattle.std.specs.Ordering.{eq_by_cmp, int_cmp, nat_cmp}
use Rattle.jsonpath_nodes.specs.document.Document.{Document, object}
use Rattle.jsonpath_nodes.specs.place.Location.{name, index, Location, at, is_same, flat, names, step_cmp}
use Rattle.jsonpath_nodes.specs.place.Order.{IsOrderedDocument}
use Rattle.jsonpath_nodes.specs.step.Steps.{Plain, every, named, listed, nth, union, range, from_each, step, all_below, flattened}
use Rattle.jsonpath_nodes.specs.update.Apart.{apart}
use Rattle.jsonpath_nodes.specs.update.Topmost.{same_step}

-- each location stands in the list once
abbrev pub HasNoRepeat : List Location → Type 0
HasNoRepeat ls = IsDistinct is_same ls

-- whether all steps are indexes
abbrev pub are_indexes : Location → Bool
are_indexes [] = true
are_indexes (name k ∷ l) = false
are_indexes (index i ∷ l) = are_indexes l

-- whether m is l with indexes alone behind it, be it none
abbrev pub goes_on_by_indexes : Location → Location → Bool
goes_on_by_indexes [] m = are_indexes m
goes_on_by_indexes (s ∷ l) [] = false
goes_on_by_indexes (s ∷ l) (t ∷ m) = same_step s t && goes_on_by_indexes l m

-- whether one of the two is the other with indexes alone behind it, be it none
abbrev pub in_one_array : Location → Location → Bool
in_one_array l m = goes_on_by_indexes l m || goes_on_by_indexes m l

-- no two of the list are the same, or one the other with indexes alone behind it: nothing is reached from two of them through arrays alone
abbrev pub IsApart : List Location → Type 0
IsApart ls = IsDistinct in_one_array ls

-- whether one of the two is the other, or stands below it
abbrev pub in_one_branch : Location → Location → Bool
in_one_branch l m = not (apart l m)

-- no two of the list are the same, and none stands below another
abbrev pub IsDisjoint : List Location → Type 0
IsDisjoint ls = IsDistinct in_one_branch ls

-- a step selects no child of a value twice: a list of names and a union do not where no two are the same, and where each index
-- of the union counts from the front
abbrev pub SelectsNoneTwice : Plain → Type 0
SelectsNoneTwice (listed ks) = IsDistinct (eq_by_cmp (slice_cmp nat_cmp)) ks
SelectsNoneTwice (union ns) = AllByRecursion (λ n. pos 0 ≤ℤ n) ns × IsDistinct (eq_by_cmp int_cmp) ns
SelectsNoneTwice _ = Unit {0}

-- whether a step is `*`
abbrev pub is_every : Plain → Bool
is_every every = true
is_every _ = false

-- whether a step leads by names
abbrev pub goes_by_names : Plain → Bool
goes_by_names (named k) = true
goes_by_names (listed ks) = true
goes_by_names _ = false

-- if the value is an object, its names ascend strictly
abbrev pub HasNamesInOrder : Document → Type 0
HasNamesInOrder (object ms) = IsStrictlySortedBy step_cmp (names ms)
HasNamesInOrder _ = Unit {0}

-- so it is with each value that the document has at the locations
abbrev pub NamesInOrderAt : Document → List Location → Type 0
NamesInOrderAt doc ls = AllByRecursion (λ l. (d : Document) → at doc l ≡ Some d → HasNamesInOrder d) ls

-- the locations have n steps each
abbrev pub HaveSteps : ℕ → List Location → Type 0
HaveSteps n ls = AllByRecursion (λ l. length l ≡ n) ls

-- ---- laws

-- the candidates of a list that is apart hold no repeat
abbrev pub ApartHasNoRepeatFlat : Type 0
ApartHasNoRepeatFlat = (doc : Document) (ls : List Location) → IsApart ls → flattened doc ls ≡ from_each doc flat ls

-- one location alone is apart
abbrev pub OneIsApart : Type 0
OneIsApart = (l : Location) → IsApart (l ∷ [])

-- a list that is apart has no repeat
abbrev pub ApartHasNoRepeat : Type 0
ApartHasNoRepeat = (ls : List Location) → IsApart ls → HasNoRepeat ls

-- a name leads from a list without repeats to one that is apart
abbrev pub NamesStandApart : Type 0
NamesStandApart = (doc : Document) (k : List ℕ) (ls : List Location) → HasNoRepeat ls → IsApart (step doc (named k) ls)

-- so does a list of names, no two of which are the same
abbrev pub ListsStandApart : Type 0
ListsStandApart = (doc : Document) (p : Plain) (ls : List Location) → goes_by_names p ≡ true → SelectsNoneTwice p → HasNoRepeat ls → IsApart (step doc p ls)

-- each step but `*` that selects no child twice leads from a list that is apart to one that is: an index and a range do
abbrev pub StepStandsApart : Type 0
StepStandsApart = (doc : Document) (p : Plain) (ls : List Location) → is_every p ≡ false → SelectsNoneTwice p → IsApart ls → IsApart (step doc p ls)

abbrev pub IndexStandsApart : Type 0
IndexStandsApart = (doc : Document) (n : ℤ) (ls : List Location) → IsApart ls → IsApart (step doc (nth n) ls)

abbrev pub RangeStandsApart : Type 0
RangeStandsApart = (doc : Document) (from to : Option ℤ) (by : Option ℕ) (ls : List Location) → IsApart ls → IsApart (step doc (range from to by) ls)

-- what a filter keeps of a list that is apart is apart
abbrev pub KeptStandApart : Type 0
KeptStandApart = (test : Location → Bool) (ls : List Location) → IsApart ls → IsApart (filter test ls)

-- candidates are apart
abbrev pub CandidatesStandApart : Type 0
CandidatesStandApart = (doc : Document) (ls : List Location) → IsApart (flattened doc ls)

-- a step that selects no child twice leads from a list without repeats to one without
abbrev pub StepHasNoRepeat : Type 0
StepHasNoRepeat = (doc : Document) (p : Plain) (ls : List Location) → IsOrderedDocument doc → SelectsNoneTwice p → HasNoRepeat ls → HasNoRepeat (step doc p ls)

-- `*` does where the names ascend at each of the locations, be the rest of the document as it may
abbrev pub EveryHasNoRepeat : Type 0
EveryHasNoRepeat = (doc : Document) (ls : List Location) → NamesInOrderAt doc ls → HasNoRepeat ls → HasNoRepeat (step doc every ls)

-- each other step does whatever is known of the document
abbrev pub ChildHasNoRepeat : Type 0
ChildHasNoRepeat = (doc : Document) (p : Plain) (ls : List Location) → is_every p ≡ false → SelectsNoneTwice p → HasNoRepeat ls → HasNoRepeat (step doc p ls)

-- what a filter keeps of a list without repeats has none
abbrev pub KeptHasNoRepeat : Type 0
KeptHasNoRepeat = (test : Location → Bool) (ls : List Location) → HasNoRepeat ls → HasNoRepeat (filter test ls)

-- what lies at or below one location of a document holds no repeat
abbrev pub BelowHasNoRepeat : Type 0
BelowHasNoRepeat = (doc : Document) (l : Location) → IsOrderedDocument doc → HasNoRepeat (all_below doc (l ∷ []))

-- `..` before a name leads from one location of a document to a list that is apart
abbrev pub DescentStandsApart : Type 0
DescentStandsApart = (doc : Document) (k : List ℕ) (l : Location) → IsOrderedDocument doc → IsApart (step doc (named k) (all_below doc (l ∷ [])))

-- locations with as many steps each, without repeats, are disjoint
abbrev pub LevelIsDisjoint : Type 0
LevelIsDisjoint = (n : ℕ) (ls : List Location) → HaveSteps n ls → HasNoRepeat ls → IsDisjoint ls

-- disjoint locations are apart
abbrev pub DisjointStandsApart : Type 0
DisjointStandsApart = (ls : List Location) → IsDisjoint ls → IsApart ls

-- a step that selects no child twice leads from disjoint locations to such; `*` where the names ascend at each of them
abbrev pub StepStaysDisjoint : Type 0
StepStaysDisjoint = (doc : Document) (p : Plain) (ls : List Location) → SelectsNoneTwice p → (is_every p ≡ true → NamesInOrderAt doc ls) → IsDisjoint ls → IsDisjoint (step doc p ls)

-- what a filter keeps of them is disjoint
abbrev pub KeptStayDisjoint : Type 0
KeptStayDisjoint = (test : Location → Bool) (ls : List Location) → IsDisjoint ls → IsDisjoint (filter test ls)

-- their candidates are
abbrev pub CandidatesStayDisjoint : Type 0
CandidatesStayDisjoint = (doc : Document) (ls : List Location) → IsDisjoint ls → IsDisjoint (flattened doc ls)

-- what lies at or below them in a document has no repeat
abbrev pub BelowDisjointHasNoRepeat : Type 0
BelowDisjointHasNoRepeat = (doc : Document) (ls : List Location) → IsOrderedDocument doc → IsDisjoint ls → HasNoRepeat (all_below doc ls)
