-- The meaning of a path by sets of locations: repeats may go after each step, and a descent may begin anywhere that finds the same.
use Rattle.std.specs.Prelude.{◌≡◌, ℕ, Bool, false, List, [], ◌∷◌, ◌++◌, filter, take, if◌then◌else◌}
use Rattle.jsonpath_nodes.specs.document.Document.{Document}
use Rattle.jsonpath_paths.specs.tree.Tree.{Path, PathSteps, Inner, Condition, Term}
use Rattle.jsonpath_paths.specs.tree.Tree as tree
use Rattle.jsonpath_nodes.specs.place.Location.{Location}
use Rattle.jsonpath_nodes.specs.place.Order.{once_in_order}
use Rattle.jsonpath_nodes.specs.compare.Comparisons.{Seen}
use Rattle.jsonpath_nodes.specs.step.Steps.{every, step, all_below}
use Rattle.jsonpath_select.specs.Meaning.{sel, follow, holds, candidates, is_some_location, values_at}
use Rattle.jsonpath_select.specs.Parts.{plain_of, literals, has_pair, joined}
use Rattle.jsonpath_nodes.specs.step.SameMembers.{SameMembers}

-- ---- what may differ

-- a list of locations, and a shorter one with the same members
abbrev pub Lessening : Type 0
Lessening = List Location → List Location

abbrev pub KeepsMembers : Lessening → Type 0
KeepsMembers less = (ls : List Location) → SameMembers (less ls) ls

-- a descent that finds what is at or below some locations
abbrev pub FindsAllBelow : Document → Lessening → Type 0
FindsAllBelow doc descend = (ls : List Location) → SameMembers (descend ls) (all_below doc ls)

-- ---- the meaning, with each step's locations lessened and each descent made so

abbrev mutual
  pub reached_by : Lessening → Lessening → List ℕ → Document → Path → Location → List Location
  reached_by less descend text doc (tree.path absolute steps) l = follow_by less descend text doc steps ((if absolute then [] else l) ∷ [])

  pub follow_by : Lessening → Lessening → List ℕ → Document → PathSteps → List Location → List Location
  follow_by less descend text doc tree.no_steps ls = ls
  follow_by less descend text doc (tree.step_then leaves bracket inner rest) ls = follow_by less descend text doc rest (less (inner_by less descend text doc inner leaves ls))

  pub inner_by : Lessening → Lessening → List ℕ → Document → Inner → Bool → List Location → List Location
  inner_by less descend text doc (tree.plain token) leaves ls = step doc (plain_of text token) (if leaves then descend ls else ls)
  inner_by less descend text doc (tree.filter f) leaves ls =
      filter (λ c. holds_by less descend text doc f c) (candidates doc f (if leaves then step doc every (descend ls) else ls))

  pub holds_by : Lessening → Lessening → List ℕ → Document → Condition → Location → Bool
  holds_by less descend text doc (tree.lone p) c = is_some_location (reached_by less descend text doc p c)
  holds_by less descend text doc (tree.compare l op r) c = has_pair op (values_by less descend text doc l c) (values_by less descend text doc r c)
  holds_by less descend text doc (tree.join op a b) c = joined op (holds_by less descend text doc a c) (holds_by less descend text doc b c)

  pub values_by : Lessening → Lessening → List ℕ → Document → Term → Location → List Seen
  values_by less descend text doc (tree.at_path p) c = values_at doc (reached_by less descend text doc p c)
  values_by less descend text doc (tree.literal token) c = literals text token

abbrev pub sel_by : Lessening → Lessening → List ℕ → Document → Path → List Location
sel_by less descend text doc p = reached_by less descend text doc p []

-- a path selects the same set so
abbrev pub SelectsOneSet : Type 0
SelectsOneSet = (less descend : Lessening) (text : List ℕ) (doc : Document) (p : Path) → KeepsMembers less → FindsAllBelow doc descend
    → SameMembers (sel_by less descend text doc p) (sel text doc p)

-- in document order and each once it is the same list
abbrev pub SelectsOneOrderedSet : Type 0
SelectsOneOrderedSet = (less descend : Lessening) (text : List ℕ) (doc : Document) (p : Path) → KeepsMembers less → FindsAllBelow doc descend
    → once_in_order (sel_by less descend text doc p) ≡ once_in_order (sel text doc p)

-- a condition holds at the same candidates
abbrev pub HoldsAlike : Type 0
HoldsAlike = (less descend : Lessening) (text : List ℕ) (doc : Document) (f : Condition) (c : Location) → KeepsMembers less → FindsAllBelow doc descend
    → holds_by less descend text doc f c ≡ holds text doc f c

-- ---- what leads to nothing

-- what some steps reach from a list is what they reach from those of its locations from which they lead somewhere
abbrev pub FollowsWhatLeadsOn : Type 0
FollowsWhatLeadsOn = (text : List ℕ) (doc : Document) (steps : PathSteps) (ls : List Location) → follow text doc steps ls ≡ follow text doc steps (filter (λ l. holds text doc (tree.lone (tree.path false steps)) l) ls)

-- The first place that some steps reach from two lists, one behind the other, is the first of what they reach from the one and
-- then from the other. All of it need not be: a filter takes a candidate once, though both lists lead to it.
abbrev pub FirstOfTwoPieces : Type 0
FirstOfTwoPieces = (text : List ℕ) (doc : Document) (steps : PathSteps) (ls ms : List Location)
    → take 1 (follow text doc steps (ls ++ ms)) ≡ take 1 (follow text doc steps ls ++ follow text doc steps ms)
