-- Single updates by a closure that may refuse: they go on until it does.
use Rattle.std.specs.Prelude.{◌≡◌, Bool, List, [], ◌∷◌, Option, option_map, MatchOption, Result, MatchResult}
use Rattle.std.specs.Borrow.{Bor}
use Rattle.std.specs.Fn.{Mut, CalledAt}
use Rattle.std.specs.declared.result.Result.TheVariants.{Ok, Err}
use Rattle.jsonpath_nodes.specs.document.Document.{Document}
use Rattle.jsonpath_nodes.specs.document.OfData.{value_document}
use Rattle.serde_json.specs.declared.value.Value.{Value}
use Rattle.jsonpath_nodes.specs.update.Calls.{UpdateCalls, IsUpdate}
use Rattle.jsonpath_nodes.specs.place.Location.{Location}
use Rattle.jsonpath_nodes.specs.update.Update.{target, update}

-- what a bound `F: FnMut(&Value) -> Result<Option<Value>, E>` says of its calls
abbrev pub TryUpdateCalls : Type 0 → Type 0 → Type 1
TryUpdateCalls F E = Mut F (Bor Value × Unit {0}) (Result (Option Value) E)

-- What was answered is put, or what stands there goes; where the closure refused, nothing changes and its error is the outcome.
abbrev pub PutsUnlessRefused : {E : Type 0} → Location → Document → Result (Option Value) E → Result (Unit {0}) E → Document → Type 0
PutsUnlessRefused l before answer outcome after =
    MatchResult answer
    (λ put. (outcome ≡ Ok tt) × (after ≡ update l (option_map value_document put) before))
    (λ e. (outcome ≡ Err e) × (after ≡ before))

-- a single try of before at l: f is shown the target, if there is one, and asked once
abbrev pub IsTry : {F E : Type 0} → TryUpdateCalls F E → Location → Document → F → Result (Unit {0}) E → F → Document → Type 0
IsTry {F} {E} calls l before f outcome g after =
    MatchOption (target l before) ((outcome ≡ Ok tt) × (g ≡ f) × (after ≡ before))
    (λ d. (shown : Value) × (answer : Result (Option Value) E) × (value_document shown ≡ d) × CalledAt calls f shown answer g × PutsUnlessRefused l before answer outcome after)

-- tries at the locations in turn, each on what the earlier ones left; the first that is refused is the last
abbrev pub IsTrial : {F E : Type 0} → TryUpdateCalls F E → List Location → Document → F → Result (Unit {0}) E → F → Document → Type 0
IsTrial calls [] before f outcome g after = (outcome ≡ Ok tt) × (g ≡ f) × (after ≡ before)
IsTrial {F} {E} calls (l ∷ ls) before f outcome g after =
    (first : Result (Unit {0}) E) × (h : F) × (mid : Document) × IsTry calls l before f first h mid
    × MatchResult first (λ _. IsTrial calls ls mid h outcome g after) (λ e. (outcome ≡ Err e) × (g ≡ h) × (after ≡ mid))

-- a single update, whether the closure is asked or not
pub record Updates {F : Type 0} (calls : UpdateCalls F) (l : Location) (before : Document) (f g : F) (after : Document) : Type 0 where
  pub asked : Bool
  pub made : IsUpdate calls l before f asked g after
