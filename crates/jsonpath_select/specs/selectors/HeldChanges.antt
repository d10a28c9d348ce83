-- What the updates of an update type leave, by the path and the document that were held.
use Rattle.std.specs.Prelude.{◌≡◌, ℕ, List, Option, Some, None, Result}
use Rattle.std.specs.declared.result.Result.TheVariants.{Err}
use Rattle.jsonpath_nodes.specs.document.Document.{Document}
use Rattle.jsonpath_nodes.specs.update.Calls.{UpdateCalls}
use Rattle.jsonpath_nodes.specs.update.Trial.{TryUpdateCalls}
use Rattle.jsonpath_select.specs.selectors.Held.{IsSelectRefused}
use Rattle.jsonpath_select.specs.Tried.{IsTried}
use Rattle.jsonpath_select.specs.declared.answer.try_replace.TryFault.{TryFault}
use Rattle.jsonpath_select.specs.declared.answer.try_replace.TryFault.TheVariants.{Unasked, Refused}
use Rattle.jsonpath_select.specs.Targets.{IsDeleted, IsRemoved, IsSet, IsReplaced}

-- the document with null at the topmost locations below the root that the path selects
abbrev pub DeletesHeld : Option (List ℕ) → Option Document → Option Document → Type 0
DeletesHeld None before after = ⊥
DeletesHeld (Some text) None after = ⊥
DeletesHeld (Some text) (Some before) None = ⊥
DeletesHeld (Some text) (Some before) (Some after) = IsDeleted text before after

-- the document without the topmost values below the root that the path selects
abbrev pub RemovesHeld : Option (List ℕ) → Option Document → Option Document → Type 0
RemovesHeld None before after = ⊥
RemovesHeld (Some text) None after = ⊥
RemovesHeld (Some text) (Some before) None = ⊥
RemovesHeld (Some text) (Some before) (Some after) = IsRemoved text before after

-- the document with the value at the topmost locations below the root that the path selects
abbrev pub SetsHeld : Document → Option (List ℕ) → Option Document → Option Document → Type 0
SetsHeld value None before after = ⊥
SetsHeld value (Some text) None after = ⊥
SetsHeld value (Some text) (Some before) None = ⊥
SetsHeld value (Some text) (Some before) (Some after) = IsSet text value before after

-- the document after the single updates at what the path selects, with what the closure answers
abbrev pub ReplacesHeld : {F : Type 0} → UpdateCalls F → Option (List ℕ) → Option Document → F → F → Option Document → Type 0
ReplacesHeld calls None before f g after = ⊥
ReplacesHeld calls (Some text) None f g after = ⊥
ReplacesHeld calls (Some text) (Some before) f g None = ⊥
ReplacesHeld calls (Some text) (Some before) f g (Some after) = IsReplaced calls text before f g after

-- the document after the single updates at what the path selects, by a closure that may refuse, with this outcome
abbrev pub TriesHeld : {F E : Type 0} → TryUpdateCalls F E → Option (List ℕ) → Option Document → F → Result (Unit {0}) E → F → Option Document → Type 0
TriesHeld calls None before f outcome g after = ⊥
TriesHeld calls (Some text) None f outcome g after = ⊥
TriesHeld calls (Some text) (Some before) f outcome g None = ⊥
TriesHeld calls (Some text) (Some before) f outcome g (Some after) = IsTried calls text before f outcome g after

-- The closure was not asked, and nothing has changed; or it refused, and what the updates before that left is held.
abbrev pub EndsHeld : {F E : Type 0} → TryUpdateCalls F E → Option (List ℕ) → Option Document → F → F → Option Document → TryFault E → Type 0
EndsHeld calls path before f g after (Unasked error) = IsSelectRefused path before error × (g ≡ f) × (after ≡ before)
EndsHeld calls path before f g after (Refused error) = TriesHeld calls path before f (Err error) g after
