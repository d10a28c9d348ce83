-- What is found in a text by a walk over it, and over the bytes before its first wrong one.
use Rattle.std.proofs.Common.{◌≡◌, ◌≢◌, ℕ, ◌+◌, ◌<◌, List, [], ◌++◌, length, take, drop, Bool, true, false, cond, refl, sym, ap, ◌∙◌, arith}
use Rattle.std.proofs.lemmas.List.{append-nil, take-append-drop, length-take-le}
use Rattle.json_recognizer.specs.Machine.{is_final, move, top_of}
use Rattle.json_recognizer.specs.State.{frames}
use Rattle.json_recognizer.specs.Stream.{later, or_later, found_from, found_at, found_in, IsWithin}
use Rattle.json_recognizer.specs.Wanted.{names}
use Rattle.json_recognizer.specs.declared.class.Class.{Class}
use Rattle.json_recognizer.specs.declared.machine.Move.TheVariants.{Wrong}
use Rattle.json_recognizer.specs.declared.state.State.{State}
use Rattle.json_recognizer.specs.declared.stream.Found.{Found}
use Rattle.json_recognizer.specs.declared.stream.Found.TheVariants.{GoesOn, Ends, Refused}
use Rattle.json_recognizer.specs.declared.wanted.Wanted.{Wanted}
use Rattle.jpath_files.specs.Refusals.{Fits}

-- a document may end here
abbrev final_at : State → Bool
final_at s = is_final s.mode (frames s.depth s.kinds)

at_end : (s : State) (b : Bool) → final_at s ≡ b → found_at s [] ≡ cond b (Ends 0) GoesOn
unfolding found_from
at_end s b e = ap (λ v. cond v (Ends 0) GoesOn) e

later_end : (n : ℕ) → later n (Ends 0) ≡ Ends n
later_end n = let e : n + 0 ≡ n = omega arith in ap Ends e

-- a walk over these bytes, from the beginning of a text
module _ (bytes : List ℕ) (first last : State) (begins : (text : List ℕ) → found_at first text ≡ found_in text) where
  whole : (found : Found) → ((more : List ℕ) → found_at first (bytes ++ more) ≡ or_later found (length bytes) (found_at last more)) → found_in bytes ≡ or_later found (length bytes) (found_at last [])
  whole found h = ap found_in (sym (append-nil bytes)) ∙ sym (begins (bytes ++ [])) ∙ h []

  pub ends_there : ((more : List ℕ) → found_at first (bytes ++ more) ≡ later (length bytes) (found_at last more)) → final_at last ≡ true → Ends (length bytes) ≡ found_in bytes
  ends_there h e = sym (whole GoesOn h ∙ ap (later (length bytes)) (at_end last true e) ∙ later_end (length bytes))

  pub goes_on : ((more : List ℕ) → found_at first (bytes ++ more) ≡ later (length bytes) (found_at last more)) → final_at last ≡ false → GoesOn ≡ found_in bytes
  goes_on h e = sym (whole GoesOn h ∙ ap (later (length bytes)) (at_end last false e))

  pub found_there : (found : Found) → ((more : List ℕ) → found_at first (bytes ++ more) ≡ or_later found (length bytes) (found_at last more)) → (found ≡ GoesOn → ⊥) → found ≡ found_in bytes
  found_there GoesOn h more_than = absurd (more_than refl)
  found_there (Ends k) h more_than = sym (whole (Ends k) h)
  found_there (Refused k) h more_than = sym (whole (Refused k) h)

-- what is found in a part of a text is nothing, where the text is refused at its end
unrefused : (found : Found) (n : ℕ) (behind : Found) → IsWithin found n → or_later found n behind ≡ Refused n → found ≡ GoesOn
unrefused GoesOn n behind within e = refl
unrefused (Ends k) n behind within e = absurd (cc)
unrefused (Refused k) n behind within e = let at : k ≡ n = cc in absurd (omega (arith, at, within))

pub words_fit : (bytes : List ℕ) (at : ℕ) (first last : State) (found : Found) (wanted : Wanted) → found_in bytes ≡ Refused at → at < length bytes
    → ((text : List ℕ) → found_at first text ≡ found_in text)
    → ((more : List ℕ) → found_at first (take at bytes ++ more) ≡ or_later found (length (take at bytes)) (found_at last more)) → IsWithin found (length (take at bytes))
    → ((c : Class) → names wanted c ≡ true → move last.mode (top_of (frames last.depth last.kinds)) c ≢ Wrong) → Fits wanted (take at bytes)
words_fit bytes at first last found wanted refused room begins h within fits =
    let long : length (take at bytes) ≡ at = length-take-le at bytes (omega (arith, room)) in
    let whole : found_in bytes ≡ or_later found (length (take at bytes)) (found_at last (drop at bytes)) = ap found_in (sym (take-append-drop at bytes)) ∙ sym (begins (take at bytes ++ drop at bytes)) ∙ h (drop at bytes) in
    let on : found ≡ GoesOn = unrefused found (length (take at bytes)) (found_at last (drop at bytes)) within (sym whole ∙ refused ∙ ap Refused (sym long)) in
    (last, (λ more. sym (begins (take at bytes ++ more)) ∙ h more ∙ ap (λ f. or_later f (length (take at bytes)) (found_at last more)) on), fits)
