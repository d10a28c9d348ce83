-- A node is seen as a location with the value there. What it means that spots stand at locations of a document.
use Rattle.std.specs.Prelude.{◌≡◌, ℕ, ◌+◌, ◌-◌, ◌^◌, List, [], ◌∷◌, ◌++◌, length, drop, take, map, Option, Some, Result, MatchResult, string_bytes}
use Rattle.std.specs.List.{slice_get}
use Rattle.std.specs.Borrow.{Bor}
use Rattle.std.specs.declared.string.String.{String}
use Rattle.std.specs.declared.alloc.Global.{Global}
use Rattle.serde_json.specs.declared.value.Value.{Value}
use Rattle.jsonpath_nodes.specs.document.Document.{Document}
use Rattle.jsonpath_nodes.specs.document.OfData.{value_document}
use Rattle.jsonpath_nodes.specs.place.Location.{Step, name, index, Location, at}
use Rattle.jsonpath_nodes.specs.declared.place.spot.PathStep.{PathStep}
use Rattle.jsonpath_nodes.specs.declared.place.spot.PathStep.TheVariants.{Name, Index}
use Rattle.jsonpath_nodes.specs.declared.place.trail.Trail.{Trail, fold-Trail}
use Rattle.jsonpath_nodes.specs.declared.place.trail.Trail.TheOpen.{Trail-F}
use Rattle.jsonpath_nodes.specs.declared.place.trail.Trail.TheOpen as layer
use Rattle.jsonpath_nodes.specs.declared.place.trail.HeldPathToContainer.{HeldPathToContainer}
use Rattle.jsonpath_nodes.specs.declared.place.trail.HeldPathToContainer.TheVariants as held
use Rattle.jsonpath_nodes.specs.declared.place.trail.PathTo.{PathTo}
use Rattle.jsonpath_nodes.specs.declared.place.trail.PathTo.TheVariants as path_to
use Rattle.jsonpath_nodes.specs.declared.place.spot.TreeNode.{TreeNode}
use Rattle.jsonpath_nodes.specs.declared.place.spot.Steps.{Steps}
use Rattle.jsonpath_nodes.specs.declared.place.steps_from_root.StepsFromRoot.{StepsFromRoot}

abbrev pub step_of : PathStep → Step
step_of (Name k) = name k.now
step_of (Index i) = index i

-- a member's name in `serde_json`'s objects
abbrev pub Key : Type 0
Key = Bor (String Global)

abbrev pub key_bytes : Key → List ℕ
key_bytes key = string_bytes key.now

-- ---- by what the bytes of a name are

-- the end of a trail, after the location that it goes on from
abbrev pub one_step_on : {N : Type 0} → (N → List ℕ) → Trail-F N Location → Location
one_step_on bytes layer.Root = []
one_step_on bytes (layer.Member parent key) = parent.value ++ name (bytes key) ∷ []
one_step_on bytes (layer.Item parent i) = parent.value ++ index i ∷ []
one_step_on bytes (layer.ItemMember i parent key) = (parent.value ++ index i ∷ []) ++ name (bytes key) ∷ []

abbrev pub location_at : {N : Type 0} → (N → List ℕ) → Trail N → Location
location_at {N} bytes = fold-Trail N Location (one_step_on bytes)

-- where a held path to an object leads
abbrev pub held_path_location : {N : Type 0} → (N → List ℕ) → HeldPathToContainer N → Location
held_path_location bytes (held.Whole t) = location_at bytes t.value
held_path_location bytes (held.Item t i) = location_at bytes t.value ++ index i ∷ []

abbrev pub path_location : {N : Type 0} → (N → List ℕ) → PathTo N → Location
path_location bytes (path_to.Whole t) = location_at bytes t.now
path_location bytes (path_to.Item t i) = location_at bytes t.now.value ++ index i ∷ []

-- where a node of a tree stands, and the value there
abbrev pub place_location : {T N : Type 0} → (N → List ℕ) → TreeNode T N → Location
place_location bytes p = location_at bytes p.trail

abbrev pub place_value : {T N : Type 0} → (T → Document) → TreeNode T N → Document
place_value content p = content p.value

-- a node's location with its value
abbrev pub place_sight : {T N : Type 0} → (N → List ℕ) → (T → Document) → TreeNode T N → Location × Option Document
place_sight bytes content p = (place_location bytes p, Some (place_value content p))

-- ---- of `serde_json`'s values

abbrev pub Spot : Type 0
Spot = TreeNode (Bor Value) Key

-- where a spot stands, and the value there
abbrev pub location_of : Spot → Location
location_of s = location_at key_bytes s.trail

abbrev pub value_of : Spot → Document
value_of s = value_document s.value.now

-- the location that a view of a spot's steps shows
abbrev pub steps_of : Steps → Location
steps_of s = path_location key_bytes s.path_to

-- the steps still to come, from the root down, as many as can be counted
abbrev pub steps_left : StepsFromRoot → Location
steps_left s = drop s.taken (take (2 ^ 64 - 1) (path_location key_bytes s.path_to))

-- the step at an index of a location, or how far the index lies behind the last one
abbrev pub IsStepAt : Location → ℕ → Result PathStep ℕ → Type 0
IsStepAt l i found = MatchResult found (λ s. slice_get l i ≡ Some (step_of s)) (λ behind. i ≡ length l + behind)

-- ---- in a document

-- a location with the value that the document has there
abbrev pub look : Document → Location → Location × Option Document
look doc l = (l, at doc l)

-- a spot's location with its value
abbrev pub sight_of : Spot → Location × Option Document
sight_of s = (location_of s, Some (value_of s))

-- the spots stand at these locations of the document, in this order, and hold what it has there
abbrev pub StandAt : Document → List Location → List Spot → Type 0
StandAt doc ls spots = map sight_of spots ≡ map (look doc) ls

-- wherever the first spots stand in the document, the found ones stand where f leads from there
abbrev pub LeadsIn : Document → (List Location → List Location) → List Spot → List Spot → Type 0
LeadsIn doc f spots found = (ls : List Location) → StandAt doc ls spots → StandAt doc (f ls) found

-- wherever the first spots stand in a document, whichever it is, the found ones stand where f leads from there
abbrev pub LeadsBy : (Document → List Location → List Location) → List Spot → List Spot → Type 0
LeadsBy f spots found = (doc : Document) → LeadsIn doc (f doc) spots found

-- ---- from one spot on, with no document

abbrev pub look_from : Location → Document → Location → Location × Option Document
look_from l d m = (l ++ m, at d m)
