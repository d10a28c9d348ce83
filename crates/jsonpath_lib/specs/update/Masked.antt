-- What several paths select together, and what masking and removing by them leave.
use Rattle.std.specs.Prelude.{◌≡◌, ℕ, List, [], ◌∷◌, ◌++◌, length, All, Option, Some, None, true, String, codes, decimal}
use Rattle.std.specs.declared.alloc.Global.{Global}
use Rattle.jsonpath_nodes.specs.document.Document.{Document}
use Rattle.jsonpath_paths.specs.Spelling.{Spells, IsInGrammar}
use Rattle.jsonpath_paths.specs.tree.Tree.{Path}
use Rattle.jsonpath_nodes.specs.place.Location.{Location}
use Rattle.jsonpath_nodes.specs.place.Order.{once_in_order}
use Rattle.jsonpath_nodes.specs.place.Mark.{MarksStandAt}
use Rattle.jsonpath_nodes.specs.place.SpotPlace.{place_location, place_value}
use Rattle.jsonpath_nodes.specs.declared.place.spot.TreeNode.{TreeNode}
use Rattle.jsonpath_nodes.specs.step.SameMembers.{SameMembers}
use Rattle.jsonpath_nodes.specs.update.Topmost.{nulled, taken}
use Rattle.jsonpath_select.specs.JsonPathErrors.{IsPathRefused, error_text}
use Rattle.jsonpath_select.specs.declared.error.JsonPathError.{JsonPathError}
use Rattle.jsonpath_select.specs.declared.error.JsonPathError.TheVariants.{EmptyPath, EmptyValue, Path as PathRefused, Serde, OutOfMemory}
use Rattle.jsonpath_select.specs.Meaning.{sel}

-- the locations that the paths select in the same document, path after path
abbrev pub AreSelected : List (List ℕ) → Document → List Location → Type 0
AreSelected [] doc ls = ls ≡ []
AreSelected (text ∷ texts) doc ls =
    (p : Path) × (rest : List Location) × Spells text p × AreSelected texts doc rest × (ls ≡ sel text doc p ++ rest)

-- the locations that the paths select in the same document, each once, in document order
pub record AreTargetsOfAll (texts : List (List ℕ)) (doc : Document) (locations : List Location) : Type 0 where
  pub all : List Location
  pub selected : AreSelected texts doc all
  pub are : locations ≡ once_in_order all

-- the nodes of a tree stand at what the paths select in a document, in any order, with or without repeats
abbrev pub AreSelectedNodes : {T N : Type 0} → (N → List ℕ) → (T → Document) → List (List ℕ) → Document → List (TreeNode T N) → Type 0
AreSelectedNodes bytes content texts doc nodes =
    (all : List Location) × AreSelected texts doc all × ((ls : List Location) × MarksStandAt true (place_location bytes) (place_value content) doc ls nodes × (once_in_order ls ≡ once_in_order all))

-- wherever in a document the first nodes stand, the others stand at the same locations, in any order, with or without repeats
abbrev pub AreAsGood : {T N : Type 0} → (N → List ℕ) → (T → Document) → List (TreeNode T N) → List (TreeNode T N) → Type 0
AreAsGood bytes content nodes others =
    (doc : Document) (ls : List Location) → MarksStandAt true (place_location bytes) (place_value content) doc ls nodes
    → (ms : List Location) × MarksStandAt true (place_location bytes) (place_value content) doc ms others × SameMembers ms ls

-- null stands at the topmost locations below the root that any of the paths selects in the document as it was
pub record IsMasked (texts : List (List ℕ)) (before after : Document) : Type 0 where
  pub locations : List Location
  pub targets : AreTargetsOfAll texts before locations
  pub changed : after ≡ nulled locations before

-- what stood at these locations is gone, all of it at once
pub record AreRemoved (texts : List (List ℕ)) (before after : Document) : Type 0 where
  pub locations : List Location
  pub targets : AreTargetsOfAll texts before locations
  pub changed : after ≡ taken locations before

-- ---- how a list of path texts is refused

-- the text at this place is the first that is not in the grammar, and it is refused with this message
pub record IsFirstRefused (texts : List (List ℕ)) (place : ℕ) (message : String Global) : Type 0 where
  pub front : List (List ℕ)
  pub text : List ℕ
  pub rest : List (List ℕ)
  pub parts : texts ≡ front ++ (text ∷ rest)
  pub count : place ≡ length front
  pub spelled : All IsInGrammar front
  pub refused : IsPathRefused text (PathRefused message)

-- the error is that of the first text that is not in the grammar, at its place; or memory ran out, and then there is no place
abbrev pub ArePathsRefused : List (List ℕ) → Option ℕ → JsonPathError → Type 0
ArePathsRefused texts index EmptyPath = ⊥
ArePathsRefused texts index EmptyValue = ⊥
ArePathsRefused texts index (PathRefused message) = (place : ℕ) × (index ≡ Some place) × IsFirstRefused texts place message
ArePathsRefused texts index (Serde message) = ⊥
ArePathsRefused texts index OutOfMemory = index ≡ None

-- the place of a refusal, but none for want of memory
abbrev pub place_unless_memory : ℕ → JsonPathError → Option ℕ
place_unless_memory place EmptyPath = Some place
place_unless_memory place EmptyValue = Some place
place_unless_memory place (PathRefused message) = Some place
place_unless_memory place (Serde message) = Some place
place_unless_memory place OutOfMemory = None

-- what `{}` and `{:?}` print: the place of the path that is refused, if there is one, and why
abbrev pub paths_fault_text : Option ℕ → JsonPathError → List ℕ
paths_fault_text None fault = error_text fault
paths_fault_text (Some place) fault = codes "path " ++ (decimal place ++ (codes ": " ++ error_text fault))
