-- A single update before a run is a run.
use Rattle.std.proofs.Common.{◌≡◌, List, [], ◌∷◌, map, Option, Some, None, option_map, MatchOption, Bool, true, false, refl, sym, ap, subst, ◌∙◌, arith}
use Rattle.std.specs.Fn.{Called}
use Rattle.std.specs.List.{FoldsTo, AllByRecursion as All}
use Rattle.jsonpath_nodes.specs.document.Document.{Document}
use Rattle.jsonpath_nodes.specs.document.OfData.{value_document}
use Rattle.serde_json.specs.declared.value.Value.{Value}
use Rattle.jsonpath_nodes.specs.place.Location.{Location}
use Rattle.jsonpath_nodes.specs.update.Update.{target, update}
use Rattle.jsonpath_nodes.proofs.update.EditLemmas.{update_nowhere}
use Rattle.jsonpath_nodes.specs.update.Calls.{UpdateCalls, IsUpdate}
use Rattle.jsonpath_nodes.specs.update.Run.{Asked, IsRun, RunsWith, asked_view, update_each}

module _ {F : Type 0} (calls : UpdateCalls F) where
  next_at : (o : Option Document) (l : Location) (ls : List Location) (before mid after : Document) (f g h : F) (asked : Bool) → target l before ≡ o
      → MatchOption o ((asked ≡ false) × (g ≡ f) × (mid ≡ before))
      (λ d. (x : Value) × (answer : Option Value) × (asked ≡ true) × (value_document x ≡ d) × Called calls f (x, tt) answer g × (mid ≡ update l (option_map value_document answer) before))
      → RunsWith calls ls mid g h after → RunsWith calls (l ∷ ls) before f h after
  next_at None l ls before mid after f g h asked e u r = grind arith
  next_at (Some d) l ls before mid after f g h asked e u r = record {
    asked = (u.0, u.1) ∷ r.asked;
    called = (g, u.4, r.called);
    run = rw e (option_map value_document u.1, map asked_view r.asked, rw u.3 refl, subst (λ (x : Document). IsRun ls x (map asked_view r.asked) after) u.5 r.run);
  }

  pub next : (l : Location) (ls : List Location) (before mid after : Document) (f g h : F) (asked : Bool) → IsUpdate calls l before f asked g mid
      → RunsWith calls ls mid g h after → RunsWith calls (l ∷ ls) before f h after
  next l ls before mid after f g h asked u r = next_at (target l before) l ls before mid after f g h asked refl u r

-- ---- a run with the same answer everywhere

each_at : (o : Option Document) (answer : Option Document) (l : Location) (ls : List Location) (before : Document) (asked : List (Value × Option Value)) (after : Document) → target l before ≡ o
    → All (λ p. option_map value_document p.1 ≡ answer) asked
    → MatchOption o (IsRun ls before (map asked_view asked) after)
    (λ d. (said : Option Document) × (more : List Asked) × (map asked_view asked ≡ (d, said) ∷ more) × IsRun ls (update l said before) more after)
    → ((b : Document) (ps : List (Value × Option Value)) → All (λ p. option_map value_document p.1 ≡ answer) ps → IsRun ls b (map asked_view ps) after → after ≡ update_each answer ls b)
    → after ≡ update_each answer ls (update l answer before)
each_at None answer l ls before asked after e all r later = later before asked all r ∙ ap (update_each answer ls) (sym (update_nowhere answer l before e))
each_at (Some d) answer l ls before [] after e all r later = absurd (cc)
each_at (Some d) answer l ls before (p ∷ asked) after e all r later =
    let more : map asked_view asked ≡ r.1 = cc in
    let said : r.0 ≡ answer = sym (let heads : asked_view p ≡ (d, r.0) = cc in ap (λ (q : Asked). q.1) heads) ∙ all.0 in
    later (update l answer before) asked all.1 (rw (more, ← said) r.3)

pub each_run : (answer : Option Document) (ls : List Location) (before : Document) (asked : List (Value × Option Value)) (after : Document) → All (λ p. option_map value_document p.1 ≡ answer) asked
    → IsRun ls before (map asked_view asked) after → after ≡ update_each answer ls before
each_run answer [] before asked after all r = r.1
each_run answer (l ∷ ls) before asked after all r = each_at (target l before) answer l ls before asked after refl all r (λ b ps. each_run answer ls b ps after)

module _ {F : Type 0} (calls : UpdateCalls F) where
  answers_all : (answer : Option Document) → ((f : F) (x : Value) (r : Option Value) (g : F) → Called calls f (x, tt) r g → option_map value_document r ≡ answer)
      → (asked : List (Value × Option Value)) (f h : F) → FoldsTo (λ p c q. Called calls p (c.0, tt) c.1 q) f asked h → All (λ p. option_map value_document p.1 ≡ answer) asked
  answers_all answer always [] f h c = tt
  answers_all answer always (p ∷ asked) f h c = (always f p.0 p.1 c.0 c.1, answers_all answer always asked c.0 h c.2)

  -- a closure that always gives one answer
  pub each_runs : (answer : Option Document) → ((f : F) (x : Value) (r : Option Value) (g : F) → Called calls f (x, tt) r g → option_map value_document r ≡ answer)
      → (ls : List Location) (before : Document) (f h : F) (after : Document) → RunsWith calls ls before f h after → after ≡ update_each answer ls before
  each_runs answer always ls before f h after r = each_run answer ls before r.asked after (answers_all answer always r.asked f h r.called) r.run

  one_at : (o : Option Document) (answer : Option Document) (l : Location) (before : Document) (f g : F) (asked : Bool) (after : Document) → target l before ≡ o
      → ((x : Value) (r : Option Value) → Called calls f (x, tt) r g → option_map value_document r ≡ answer)
      → MatchOption o ((asked ≡ false) × (g ≡ f) × (after ≡ before))
      (λ d. (x : Value) × (said : Option Value) × (asked ≡ true) × (value_document x ≡ d) × Called calls f (x, tt) said g × (after ≡ update l (option_map value_document said) before))
      → after ≡ update l answer before
  one_at None answer l before f g asked after e always u = u.2 ∙ sym (update_nowhere answer l before e)
  one_at (Some d) answer l before f g asked after e always u = u.5 ∙ ap (λ a. update l a before) (always u.0 u.1 u.4)

  -- one update by a closure that gives this answer now
  pub update_where_steps_lead : (answer : Option Document) (l : Location) (before : Document) (f g : F) (asked : Bool) (after : Document)
      → ((x : Value) (r : Option Value) → Called calls f (x, tt) r g → option_map value_document r ≡ answer) → IsUpdate calls l before f asked g after → after ≡ update l answer before
  update_where_steps_lead answer l before f g asked after now u = one_at (target l before) answer l before f g asked after refl now u
