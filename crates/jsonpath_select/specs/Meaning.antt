-- The locations that a path selects in a document, in order, with repeats.
use Rattle.std.specs.Prelude.{◌≡◌, ℕ, Bool, true, false, ◌&&◌, ◌||◌, not, List, [], ◌∷◌, filter, filter_map, if◌then◌else◌, option_map}
use Rattle.jsonpath_nodes.specs.document.Document.{Document}
use Rattle.jsonpath_paths.specs.tree.Tree.{Path, PathSteps, Inner, Condition, Term}
use Rattle.jsonpath_paths.specs.tree.Tree as tree
use Rattle.jsonpath_nodes.specs.place.Location.{Location, at}
use Rattle.jsonpath_nodes.specs.step.Steps.{every, step, all_below, flattened}
use Rattle.jsonpath_nodes.specs.compare.Comparisons.{Seen, seen}
use Rattle.jsonpath_nodes.specs.place.Order.{once_in_order}
use Rattle.jsonpath_nodes.specs.place.Mark.{MarksStandAt}
use Rattle.jsonpath_nodes.specs.place.SpotPlace.{Spot, StandAt, place_location, place_value}
use Rattle.jsonpath_nodes.specs.declared.place.spot.TreeNode.{TreeNode}
use Rattle.jsonpath_paths.specs.OfPath.{OfPath}
use Rattle.jsonpath_select.specs.Parts.{plain_of, literals, has_pair, joined}

-- ---- candidates

abbrev pub has_steps : PathSteps → Bool
has_steps tree.no_steps = false
has_steps (tree.step_then leaves bracket inner rest) = true

-- whether a path is `@` with at least one step
abbrev pub has_own_step_path : Path → Bool
has_own_step_path (tree.path absolute steps) = not absolute && has_steps steps

abbrev pub has_own_step_term : Term → Bool
has_own_step_term (tree.at_path p) = has_own_step_path p
has_own_step_term (tree.literal token) = false

-- Whether a filter's own `@` has a step. An `@` is the filter's own if it is not inside a deeper filter.
abbrev pub has_own_step : Condition → Bool
has_own_step (tree.lone p) = has_own_step_path p
has_own_step (tree.compare l op r) = has_own_step_term l || has_own_step_term r
has_own_step (tree.join op a b) = has_own_step a || has_own_step b

-- what a filter tests: where its own `@` has a step, what is no array and is reached through arrays alone, each once; else the
-- locations themselves
abbrev pub candidates : Document → Condition → List Location → List Location
candidates doc f ls = if has_own_step f then flattened doc ls else ls

-- ---- the meaning

abbrev pub is_some_location : List Location → Bool
is_some_location [] = false
is_some_location (l ∷ ls) = true

-- what comparisons see at these locations
abbrev pub values_at : Document → List Location → List Seen
values_at doc ls = filter_map (λ l. option_map seen (at doc l)) ls

-- `..` before a plain step is that step from each location and from all below it; before a filter it is the filter on what `..*`
-- gives
abbrev mutual
  -- what a path leads to from a location; `$` begins at the root, `@` at the location
  pub reached : List ℕ → Document → Path → Location → List Location
  reached text doc (tree.path absolute steps) l = follow text doc steps ((if absolute then [] else l) ∷ [])

  -- the steps one after the other
  pub follow : List ℕ → Document → PathSteps → List Location → List Location
  follow text doc tree.no_steps ls = ls
  follow text doc (tree.step_then leaves bracket inner rest) ls = follow text doc rest (inner_on text doc inner leaves ls)

  -- one step
  pub inner_on : List ℕ → Document → Inner → Bool → List Location → List Location
  inner_on text doc (tree.plain token) leaves ls = step doc (plain_of text token) (if leaves then all_below doc ls else ls)
  inner_on text doc (tree.filter f) leaves ls =
      filter (λ c. holds text doc f c) (candidates doc f (if leaves then step doc every (all_below doc ls) else ls))

  -- whether a condition holds at a candidate
  pub holds : List ℕ → Document → Condition → Location → Bool
  holds text doc (tree.lone p) c = is_some_location (reached text doc p c)
  holds text doc (tree.compare l op r) c = has_pair op (values text doc l c) (values text doc r c)
  holds text doc (tree.join op a b) c = joined op (holds text doc a c) (holds text doc b c)

  -- the values of a term at a candidate
  pub values : List ℕ → Document → Term → Location → List Seen
  values text doc (tree.at_path p) c = values_at doc (reached text doc p c)
  values text doc (tree.literal token) c = literals text token

-- the locations that a path, spelled by the text, selects
abbrev pub sel : List ℕ → Document → Path → List Location
sel text doc p = reached text doc p []

-- the values there
abbrev pub answer : List ℕ → Document → Path → List Document
answer text doc p = filter_map (at doc) (sel text doc p)

-- ---- what a path text selects, by the tree that it spells

-- the path selects these locations of the document
abbrev pub SelectsAt : List ℕ → Document → List Location → Type 0
SelectsAt text doc locations = OfPath text (λ path. locations ≡ sel text doc path)

-- the path selects these values of the document
abbrev pub Selects : List ℕ → Document → List Document → Type 0
Selects text doc values = OfPath text (λ path. values ≡ answer text doc path)

-- the spots stand at locations of the document that are, in document order and each once, those that the path selects
abbrev pub SelectsSet : List ℕ → Document → List Spot → Type 0
SelectsSet text doc spots = OfPath text (λ path. (ls : List Location) × StandAt doc ls spots × (once_in_order ls ≡ once_in_order (sel text doc path)))

-- the spots stand, in this order, at what the path selects in the document
abbrev pub SelectsSpots : List ℕ → Document → List Spot → Type 0
SelectsSpots text doc spots = OfPath text (λ path. StandAt doc (sel text doc path) spots)

-- the same of the nodes of any tree, by the bytes of its names and the documents of its values
abbrev pub SelectsNodes : {T N : Type 0} → (N → List ℕ) → (T → Document) → List ℕ → Document → List (TreeNode T N) → Type 0
SelectsNodes bytes content text doc nodes = OfPath text (λ path. MarksStandAt true (place_location bytes) (place_value content) doc (sel text doc path) nodes)

-- the nodes of any tree stand at locations that are, in document order and each once, those that the path selects
abbrev pub SelectsNodeSet : {T N : Type 0} → (N → List ℕ) → (T → Document) → List ℕ → Document → List (TreeNode T N) → Type 0
SelectsNodeSet bytes content text doc nodes =
    OfPath text (λ path. (ls : List Location) × MarksStandAt true (place_location bytes) (place_value content) doc ls nodes × (once_in_order ls ≡ once_in_order (sel text doc path)))
