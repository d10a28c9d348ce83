-- What begins at the root is the same at every candidate.
use Rattle.std.specs.Prelude.{◌≡◌, ℕ, Bool, true, ◌&&◌, IsTrue, List, [], filter, if◌then◌else◌}
use Rattle.jsonpath_nodes.specs.document.Document.{Document}
use Rattle.jsonpath_paths.specs.tree.Tree.{Path, path, PathSteps, Condition, lone, compare, join, Term, at_path, literal}
use Rattle.jsonpath_nodes.specs.place.Location.{Location}
use Rattle.jsonpath_select.specs.Meaning.{holds, values}

-- a term from the root has the same values at every candidate
abbrev pub RootedTermIsFixed : Type 0
RootedTermIsFixed = (text : List ℕ) (doc : Document) (steps : PathSteps) (c d : Location) → values text doc (at_path (path true steps)) c ≡ values text doc (at_path (path true steps)) d

abbrev pub is_rooted_path : Path → Bool
is_rooted_path (path absolute steps) = absolute

abbrev pub is_rooted_term : Term → Bool
is_rooted_term (at_path p) = is_rooted_path p
is_rooted_term (literal token) = true

-- whether each path of a condition begins at the root
abbrev pub is_rooted : Condition → Bool
is_rooted (lone p) = is_rooted_path p
is_rooted (compare l op r) = is_rooted_term l && is_rooted_term r
is_rooted (join op a b) = is_rooted a && is_rooted b

-- such a condition holds at all candidates or at none
abbrev pub RootedHoldsAlike : Type 0
RootedHoldsAlike = (text : List ℕ) (doc : Document) (f : Condition) (c d : Location) → IsTrue (is_rooted f) → holds text doc f c ≡ holds text doc f d

abbrev pub RootedKeepsAllOrNone : Type 0
RootedKeepsAllOrNone = (text : List ℕ) (doc : Document) (f : Condition) (ls : List Location) → IsTrue (is_rooted f)
    → filter (λ c. holds text doc f c) ls ≡ (if holds text doc f [] then ls else [])
