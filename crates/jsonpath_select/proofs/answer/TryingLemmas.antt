-- A trial at the targets of a path.
use Rattle.std.proofs.Common.{◌≡◌, ℕ, List, Result, subst, ◌∙◌}
use Rattle.jsonpath_nodes.specs.document.Document.{Document}
use Rattle.jsonpath_nodes.specs.place.Location.{Location}
use Rattle.jsonpath_nodes.specs.update.Trial.{TryUpdateCalls, IsTrial}
use Rattle.jsonpath_select.specs.Targets.{AreTargets}
use Rattle.jsonpath_select.specs.Tried.{IsTried}

module _ {F E : Type 0} (calls : TryUpdateCalls F E) (text : List ℕ) (before : Document) (f g : F) (after : Document) where
  -- a trial at the targets, handed over as a slice
  pub tried_at : (found slice : List Location) (outcome : Result (Unit {0}) E) → slice ≡ found → AreTargets text before found → IsTrial calls slice before f outcome g after → IsTried calls text before f outcome g after
  tried_at found slice outcome same are trial = record {
    path = are.path;
    spelled = are.spelled;
    holds = subst (λ (ls : List Location). IsTrial calls ls before f outcome g after) (same ∙ are.holds) trial;
  }
