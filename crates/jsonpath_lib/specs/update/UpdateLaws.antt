-- Laws of updates: by a path that selects one location alone, and by several paths.
use Rattle.std.specs.Prelude.{◌≡◌, ◌↔◌, ℕ, List, Contains, Some, None}
use Rattle.jsonpath_nodes.specs.document.Document.{Document, null}
use Rattle.jsonpath_paths.specs.Spelling.{Spells}
use Rattle.jsonpath_paths.specs.tree.Tree.{Path}
use Rattle.jsonpath_nodes.specs.place.Location.{Location}
use Rattle.jsonpath_nodes.specs.update.Update.{update}
use Rattle.jsonpath_select.specs.SelectionLaws.{where_it_is}
use Rattle.jsonpath_select.specs.Meaning.{SelectsAt}
use Rattle.jsonpath_lib.specs.update.Masked.{AreRemoved, IsMasked}
use Rattle.jsonpath_select.specs.Targets.{targets, IsDeleted, IsRemoved}

-- a path that selects one location, where something stands there, has it as its one target
abbrev pub TargetsPlace : Type 0
TargetsPlace = (text : List ℕ) (doc : Document) (l : Location) (p : Path) → SelectsAt text doc (where_it_is doc l) → Spells text p → targets text doc p ≡ where_it_is doc l

-- deleting by a path that selects one location is the single update that puts null there
abbrev pub DeletesPlace : Type 0
DeletesPlace = (text : List ℕ) (before after : Document) (l : Location) → SelectsAt text before (where_it_is before l) → IsDeleted text before after → after ≡ update l (Some null) before

-- removing by a path that selects one location is the single update that takes away
abbrev pub RemovesPlace : Type 0
RemovesPlace = (text : List ℕ) (before after : Document) (l : Location) → SelectsAt text before (where_it_is before l) → IsRemoved text before after → after ≡ update l None before

-- each path of one list is one of the other list
abbrev pub AreSamePaths : List (List ℕ) → List (List ℕ) → Type 0
AreSamePaths ss ts = (s : List ℕ) → Contains ss s ↔ Contains ts s

-- masking by several paths goes by which paths there are, and neither by their order nor by repeats
abbrev pub MasksInAnyOrder : Type 0
MasksInAnyOrder = (ss ts : List (List ℕ)) (before a b : Document) → AreSamePaths ss ts → IsMasked ss before a → IsMasked ts before b → a ≡ b

-- removing by several paths goes by which paths there are, and neither by their order nor by repeats
abbrev pub RemovesInAnyOrder : Type 0
RemovesInAnyOrder = (ss ts : List (List ℕ)) (before a b : Document) → AreSamePaths ss ts → AreRemoved ss before a → AreRemoved ts before b → a ≡ b
