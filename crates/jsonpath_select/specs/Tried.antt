-- The single updates at what a path selects, by a closure that may refuse, as far as they went, and what such an end prints.
use Rattle.std.specs.Prelude.{◌≡◌, ℕ, List, Option, Some, Result}
use Rattle.std.specs.declared.result.Result.TheVariants.{Err}
use Rattle.jsonpath_nodes.specs.document.Document.{Document}
use Rattle.jsonpath_nodes.specs.update.Trial.{TryUpdateCalls, IsTrial}
use Rattle.jsonpath_select.specs.declared.error.JsonPathError.{JsonPathError}
use Rattle.jsonpath_select.specs.JsonPathErrors.{error_text}
use Rattle.jsonpath_paths.specs.OfPath.{OfPath}
use Rattle.jsonpath_select.specs.Targets.{targets}
use Rattle.jsonpath_select.specs.declared.answer.try_replace.TryFault.{TryFault}
use Rattle.jsonpath_select.specs.declared.answer.try_replace.TryFault.TheVariants.{Unasked, Refused}

-- the single updates at the selected locations, one after another, until the closure refuses one
abbrev pub IsTried : {F E : Type 0} → TryUpdateCalls F E → List ℕ → Document → F → Result (Unit {0}) E → F → Document → Type 0
IsTried calls text before f outcome g after = OfPath text (λ path. IsTrial calls (targets text before path) before f outcome g after)

-- The closure was not asked, for a reason that MayBe allows, and nothing has changed; or it refused, and what the updates before that left stands.
abbrev pub IsEnded : {F E : Type 0} → TryUpdateCalls F E → (JsonPathError → Type 0) → List ℕ → Document → F → F → Document → TryFault E → Type 0
IsEnded calls MayBe text before f g after (Unasked error) = MayBe error × (g ≡ f) × (after ≡ before)
IsEnded calls MayBe text before f g after (Refused error) = IsTried calls text before f (Err error) g after

-- what an end prints: the text of the reason why the closure was not asked, or that of the closure's refusal
abbrev pub try_fault_text : {E : Type 0} → (E → Option (List ℕ)) → TryFault E → Option (List ℕ)
try_fault_text text (Unasked error) = Some (error_text error)
try_fault_text text (Refused refusal) = text refusal

-- the error behind an end, where the closure refuses with an error of the same kind
abbrev pub error_behind : TryFault JsonPathError → JsonPathError
error_behind (Unasked error) = error
error_behind (Refused refusal) = refusal
