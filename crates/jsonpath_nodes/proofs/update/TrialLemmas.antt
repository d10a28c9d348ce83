-- Single updates by one answer, single tries, and a trial behind a try.
use Rattle.std.proofs.Common.{◌≡◌, ◌==◌, List, [], ◌∷◌, length, Option, Some, option_map, false, Result, Ok, Err, true≢false, refl, ap}
use Rattle.std.specs.Borrow.{Bor}
use Rattle.std.specs.Fn.{Called}
use Rattle.jsonpath_nodes.specs.document.Document.{Document}
use Rattle.jsonpath_nodes.specs.document.OfData.{value_document}
use Rattle.serde_json.specs.declared.value.Value.{Value}
use Rattle.jsonpath_nodes.specs.update.Calls.{UpdateCalls}
use Rattle.jsonpath_nodes.specs.place.Location.{Location, at}
use Rattle.jsonpath_nodes.specs.place.Owned.{owned_steps}
use Rattle.jsonpath_nodes.specs.update.Trial.{Updates, TryUpdateCalls, PutsUnlessRefused, IsTry, IsTrial}
use Rattle.jsonpath_nodes.specs.update.Update.{target, update}
use Rattle.jsonpath_nodes.specs.declared.place.location.LocStep.{LocStep}
use Rattle.jsonpath_nodes.proofs.update.RunLemmas.{update_where_steps_lead}

-- ---- a single update by a closure that gives this answer

module _ {F : Type 0} (calls : UpdateCalls F) (l : Location) (before after : Document) (f g : F) (answer : Option Value) where
  -- it puts that answer
  pub puts_answer : Updates calls l before f g after → ((x : Value) (r : Option Value) (h : F) → Called calls f (x, tt) r h → r ≡ answer) → after ≡ update l (option_map value_document answer) before
  puts_answer u gives = update_where_steps_lead calls (option_map value_document answer) l before f g u.asked after (λ x r called. ap (option_map value_document) (gives x r g called)) u.made

-- ---- a single try

-- below the root the target is what stands there
pub target_below : (steps : List LocStep) (d : Document) → (length steps == 0) ≡ false → target (owned_steps steps) d ≡ at d (owned_steps steps)
target_below [] d e = absurd (true≢false e)
target_below (s ∷ ss) d e = refl

module _ {F E : Type 0} (calls : TryUpdateCalls F E) where
  pub tried : (l : Location) (before after : Document) (f g : F) (shown : Bor Value) (answer : Result (Option Value) E) (outcome : Result (Unit {0}) E) → target l before ≡ Some (value_document shown.now)
      → Called calls f (shown, tt) answer g → PutsUnlessRefused l before answer outcome after → IsTry calls l before f outcome g after
  tried l before after f g shown answer outcome e q p = rw e (shown.now, answer, refl, record { shown = shown; shows = refl; called = q }, p)

  -- ---- a trial goes on behind a try that was not refused, and ends with one that was

  pub goes_on : (l : Location) (ls : List Location) (before mid after : Document) (f g h : F) (outcome : Result (Unit {0}) E) → IsTry calls l before f (Ok tt) g mid
      → IsTrial calls ls mid g outcome h after → IsTrial calls (l ∷ ls) before f outcome h after
  goes_on l ls before mid after f g h outcome t r = (Ok tt, g, mid, t, r)

  pub stops : (l : Location) (ls : List Location) (before mid : Document) (f g : F) (error : E) → IsTry calls l before f (Err error) g mid → IsTrial calls (l ∷ ls) before f (Err error) g mid
  stops l ls before mid f g error t = (Err error, g, mid, t, (refl, refl, refl))
