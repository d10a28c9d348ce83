-- A single update, step by step.
use Rattle.std.proofs.Common.{◌≡◌, ℕ, zero, suc, List, [], ◌∷◌, Option, Some, None, option_map, MatchOption, Bool, true, false, Ordering, nat_cmp, length, nat_eq, true≢false, refl, sym, ap, ◌∙◌, arith}
use Rattle.std.specs.Ordering.{match_ordering}
use Rattle.std.specs.Fn.{Called}
use Rattle.std.specs.Cmp.Lexicographic.{slice_cmp}
use Rattle.jsonpath_nodes.specs.document.Document.{Document, Items, no_items, item, Members, no_members, member}
use Rattle.jsonpath_nodes.specs.document.Find.{get_item, get_member}
use Rattle.jsonpath_nodes.specs.document.OfData.{value_document}
use Rattle.serde_json.specs.declared.value.Value.{Value}
use Rattle.jsonpath_nodes.specs.place.Location.{Step, Location, child}
use Rattle.jsonpath_nodes.proofs.place.ThereLemmas.{there}
use Rattle.jsonpath_nodes.specs.declared.place.location.LocStep.{LocStep}
use Rattle.jsonpath_nodes.specs.place.Owned.{owned_step, owned_steps}
use Rattle.jsonpath_nodes.specs.update.Update.{item_if, member_if, edit_item, edit_member, edit, with_answer_at, update, target}
use Rattle.jsonpath_nodes.specs.update.Calls.{UpdateCalls, IsUpdate}

-- ---- an edit goes by what f answers for the child alone

edit_item_by : (f : Document → Option Document) (i : ℕ) (ds : Items) (c : Document) → get_item i ds ≡ Some c → edit_item f i ds ≡ edit_item (λ _. f c) i ds
edit_item_by f i no_items c e = refl
edit_item_by f zero (item d ds) c e = let same : d ≡ c = cc in ap (λ x. item_if (f x) ds) same
edit_item_by f (suc i) (item d ds) c e = ap (item d) (edit_item_by f i ds c e)

edit_member_by_at : (o : Ordering) (f : Document → Option Document) (k l : List ℕ) (d : Document) (ms : Members) (c : Document)
    → (get_member k ms ≡ Some c → edit_member f k ms ≡ edit_member (λ _. f c) k ms)
    → match_ordering o (get_member k ms) (Some d) (get_member k ms) ≡ Some c
    → match_ordering o (member l d (edit_member f k ms)) (member_if l (f d) ms) (member l d (edit_member f k ms))
    ≡ match_ordering o (member l d (edit_member (λ _. f c) k ms)) (member_if l (f c) ms) (member l d (edit_member (λ _. f c) k ms))
edit_member_by_at o f k l d ms c later e = grind arith

pub edit_member_by : (f : Document → Option Document) (k : List ℕ) (ms : Members) (c : Document) → get_member k ms ≡ Some c → edit_member f k ms ≡ edit_member (λ _. f c) k ms
edit_member_by f k no_members c e = refl
edit_member_by f k (member l d ms) c e = edit_member_by_at (slice_cmp nat_cmp k l) f k l d ms c (edit_member_by f k ms c) e

pub edit_by : (f : Document → Option Document) (s : Step) (d c : Document) → child s d ≡ Some c → edit f s d ≡ edit (λ _. f c) s d
edit_by f s d c e = grind (arith, edit_item_by, edit_member_by)

-- ---- an edit that answers the child itself changes nothing

edit_item_same : (f : Document → Option Document) (i : ℕ) (ds : Items) → ((c : Document) → get_item i ds ≡ Some c → f c ≡ Some c) → edit_item f i ds ≡ ds
edit_item_same f i no_items h = refl
edit_item_same f zero (item d ds) h = ap (λ o. item_if o ds) (h d refl)
edit_item_same f (suc i) (item d ds) h = ap (item d) (edit_item_same f i ds h)

edit_member_same_at : (o : Ordering) (f : Document → Option Document) (k l : List ℕ) (d : Document) (ms : Members)
    → ((c : Document) → match_ordering o (get_member k ms) (Some d) (get_member k ms) ≡ Some c → f c ≡ Some c)
    → (((c : Document) → get_member k ms ≡ Some c → f c ≡ Some c) → edit_member f k ms ≡ ms)
    → match_ordering o (member l d (edit_member f k ms)) (member_if l (f d) ms) (member l d (edit_member f k ms)) ≡ member l d ms
edit_member_same_at o f k l d ms h later = grind arith

pub edit_member_same : (f : Document → Option Document) (k : List ℕ) (ms : Members) → ((c : Document) → get_member k ms ≡ Some c → f c ≡ Some c) → edit_member f k ms ≡ ms
edit_member_same f k no_members h = refl
edit_member_same f k (member l d ms) h = edit_member_same_at (slice_cmp nat_cmp k l) f k l d ms h (edit_member_same f k ms)

pub edit_same : (f : Document → Option Document) (s : Step) (d : Document) → ((c : Document) → child s d ≡ Some c → f c ≡ Some c) → edit f s d ≡ d
edit_same f s d h = grind (arith, edit_item_same, edit_member_same)

pub edit_back : (s : Step) (d : Document) → edit Some s d ≡ d
edit_back s d = edit_same Some s d (λ c h. refl)

-- ---- where a location leads nowhere, nothing changes

answer_nowhere : (answer : Option Document) (l : Location) (d : Document) → there l d ≡ None → with_answer_at answer l d ≡ Some d
answer_nowhere answer [] d e = cc
answer_nowhere answer (s ∷ l) d e = ap Some (edit_same (with_answer_at answer l) s d (λ c h. answer_nowhere answer l c (rw h at e)))

pub update_nowhere : (answer : Option Document) (l : Location) (d : Document) → target l d ≡ None → update l answer d ≡ d
update_nowhere answer l d e = grind (arith, answer_nowhere, edit_same)

-- ---- the single update of a child is that of its parent

matched : {T : Type 0} (o : Option T) {P P' : Type 0} {Q Q' : T → Type 0} → (P → P') → ((d : T) → Q d → Q' d) → MatchOption o P Q → MatchOption o P' Q'
matched o p q h = grind arith

module _ {F : Type 0} (calls : UpdateCalls F) where
  pub nowhere : (s : Step) (l : Location) (d : Document) (f : F) (after : Document) → child s d ≡ None → after ≡ d → IsUpdate calls (s ∷ l) d f false f after
  nowhere s l d f after none same = rw none (refl, refl, same)

  pub answered : (s : Step) (d : Document) (f g : F) (x : Value) (answer : Option Value) (after : Document) → child s d ≡ Some (value_document x) → Called calls f (x, tt) answer g
      → after ≡ edit (λ _. option_map value_document answer) s d → IsUpdate calls (s ∷ []) d f true g after
  answered s d f g x answer after found h e = rw found (x, answer, refl, refl, h, e)

  pub through : (s t : Step) (l : Location) (before c c' : Document) (f g : F) (asked : Bool) (after : Document) → child s before ≡ Some c
      → after ≡ edit (λ _. Some c') s before
      → IsUpdate calls (t ∷ l) c f asked g c' → IsUpdate calls (s ∷ t ∷ l) before f asked g after
  through s t l before c c' f g asked after found e h =
      let kept : c' ≡ c → after ≡ before = λ same. e ∙ ap (λ x. edit (λ _. Some x) s before) same ∙ sym (edit_by Some s before c found) ∙ edit_back s before in
      let made = λ (answer : Option Document) (is : c' ≡ update (t ∷ l) answer c). e ∙ ap (λ x. edit (λ _. Some x) s before) is ∙ sym (edit_by (with_answer_at answer (t ∷ l)) s before c found) in
      rw found (matched (there (t ∷ l) c) (λ p. (p.0, p.1, kept p.2)) (λ d q. (q.0, q.1, q.2, q.3, q.4, made (option_map value_document q.1) q.5)) h)

  -- the same, where the rest of the steps is known to be there
  pub through_rest : (s : Step) (rest : List LocStep) (before c c' : Document) (f g : F) (asked : Bool) (after : Document) → nat_eq (length rest) 0 ≡ false → child s before ≡ Some c
      → after ≡ edit (λ _. Some c') s before
      → IsUpdate calls (owned_steps rest) c f asked g c' → IsUpdate calls (s ∷ owned_steps rest) before f asked g after
  through_rest s [] before c c' f g asked after more found e h = absurd (true≢false more)
  through_rest s (t ∷ rest) before c c' f g asked after more found e h = through s (owned_step t) (owned_steps rest) before c c' f g asked after found e h
