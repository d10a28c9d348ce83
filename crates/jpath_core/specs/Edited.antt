-- A text that was edited at the targets of a path.
use Rattle.std.specs.Prelude.{◌≡◌, ◌≢◌, ℕ, List, [], ◌∷◌, Some}
use Rattle.json.specs.Value.{value_view}
use Rattle.jsonpath_paths.specs.Spelling.{Spells}
use Rattle.jsonpath_paths.specs.tree.Tree.{Path}
use Rattle.jsonpath_nodes.specs.place.Location.{Location}
use Rattle.jsonpath_select.specs.Meaning.{sel}
use Rattle.jsonpath_select.specs.Targets.{AreTargets}
use Rattle.jpath_edits.specs.Changed.{IsChangedAt, ReadsChanged}
use Rattle.jpath_edits.specs.Grown.{IsGrownAt}
use Rattle.jpath_edits.specs.declared.change.Change.{Change}
use Rattle.jpath_edits.specs.declared.change.Change.TheVariants.{Put}
use Rattle.jpath_edits.specs.declared.growth.Growth.{Growth}
use Rattle.jpath_edits.specs.declared.growth.Growth.TheVariants.{Member, Item, Name}
use Rattle.json.specs.Json.{Json}
use Rattle.json_trees.specs.Exact.{exact_of}
use Rattle.json_trees.specs.ExactDocument.{exact_document}
use Rattle.jpath_core.specs.declared.grow.NewMember.{NewMember}

-- The text is changed at the targets of the path and nowhere else, and read again it is the document changed there.
pub record IsEditedAt (path : List ℕ) (change : Change) (exact : Json) (text written : List ℕ) : Type 0 where
  pub locations : List Location
  pub targets : AreTargets path (exact_document exact) locations
  pub changed : IsChangedAt change exact locations text written
  pub reads : ReadsChanged change locations exact written

-- Something was made at the targets of the path.
pub record IsGrownByPath (path : List ℕ) (growth : Growth) (exact : Json) (text written : List ℕ) : Type 0 where
  pub locations : List Location
  pub targets : AreTargets path (exact_document exact) locations
  pub grown : IsGrownAt growth exact locations text written

-- what is made is an item with the value of this JSON text
abbrev pub IsItemOf : List ℕ → Growth → Type 0
IsItemOf value (Member k v) = ⊥
IsItemOf value (Item v) = exact_of value ≡ Some (value_view v.now)
IsItemOf value (Name k n) = ⊥

-- what is made is a member of this name with the value of this JSON text
abbrev pub IsMemberOf : List ℕ → List ℕ → Growth → Type 0
IsMemberOf name value (Member k v) = (k.now ≡ name) × (exact_of value ≡ Some (value_view v.now))
IsMemberOf name value (Item v) = ⊥
IsMemberOf name value (Name k n) = ⊥

-- An item with the value of this JSON text went to the end of the lists that the path selects.
pub record IsAppended (path value : List ℕ) (exact : Json) (text written : List ℕ) : Type 0 where
  pub growth : Growth
  pub is_item : IsItemOf value growth
  pub grown : IsGrownByPath path growth exact text written

-- The member was made in the object above it.
pub record IsMade (member : NewMember) (tree : Json) (text written : List ℕ) : Type 0 where
  pub growth : Growth
  pub is_member : IsMemberOf member.name.now member.value.now growth
  pub grown : IsGrownAt growth tree (member.above.now ∷ []) text written

-- the path selects nothing, or something
abbrev pub SelectsNothing : List ℕ → Json → Type 0
SelectsNothing path exact = (p : Path) → Spells path p → sel path (exact_document exact) p ≡ []

abbrev pub SelectsSomething : List ℕ → Json → Type 0
SelectsSomething path exact = (p : Path) → Spells path p → sel path (exact_document exact) p ≢ []

-- The value that the path selects is replaced; where it selects none, the member is made.
pub data IsMemberPut (path : List ℕ) (member : NewMember) (exact : Json) (text written : List ℕ) : Type 0 where
  replaced : SelectsSomething path exact → IsEditedAt path (Put member.value) exact text written → IsMemberPut path member exact text written
  made : SelectsNothing path exact → IsMade member exact text written → IsMemberPut path member exact text written
