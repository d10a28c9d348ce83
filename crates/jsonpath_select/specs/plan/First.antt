-- The first place of an answer, found from some of its starting places at a time.
use Rattle.std.specs.Prelude.{◌≡◌, ℕ, Bool, List, filter, take, Option, Some, None}
use Rattle.std.specs.Borrow.{Bor}
use Rattle.jsonpath_nodes.specs.document.Document.{Document}
use Rattle.jsonpath_paths.specs.tree.Tree.{Condition}
use Rattle.jsonpath_nodes.specs.place.Location.{Location}
use Rattle.jsonpath_nodes.specs.place.Mark.{MarksStandAt}
use Rattle.jsonpath_select.specs.Meaning.{holds}
use Rattle.jsonpath_select.specs.plan.NextFilter.{CodesCondition}
use Rattle.jsonpath_select.specs.declared.machine.instruction.Instruction.{Instruction}

-- the first of the marks stands at the first of the locations, and there is none where there is no location
abbrev pub BeginAs : {M : Type 0} → Bool → (M → Location) → (M → Document) → Document → List Location → List M → Type 0
BeginAs b stand content doc ls marks = (front : List Location) × MarksStandAt b stand content doc front marks × (take 1 ls ≡ take 1 front)

-- these are the instructions of the condition, if there is one
abbrev pub CodesOptionalCondition : Option (Bor (List Instruction)) → Option Condition → Type 0
CodesOptionalCondition (Some is) (Some f) = CodesCondition is.now f
CodesOptionalCondition None None = Unit {0}
CodesOptionalCondition _ _ = ⊥

-- the locations at which the condition holds, or all where there is none
abbrev pub kept_by : List ℕ → Document → Option Condition → List Location → List Location
kept_by text doc (Some f) ls = filter (λ l. holds text doc f l) ls
kept_by text doc None ls = ls
