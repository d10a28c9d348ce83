-- What is found along a stream, byte by byte.
use Rattle.std.proofs.Common.{◌≡◌, ℕ, suc, ◌+◌, ◌-◌, ◌<◌, ◌≤◌, List, [], ◌∷◌, ◌++◌, length, get_or, take, drop, Bool, true, false, ◌&&◌, cond, map, refl, sym, ap, ap₂, subst, ◌∙◌, arith, add-one, append_assoc, drop-cons}
use Rattle.std.proofs.lemmas.List.{append-nil, drop-drop, take-append-drop, length-take-le}
use Rattle.json_recognizer.specs.Classes.{class_of}
use Rattle.json_recognizer.specs.Grammar.{IsDocument, Begins, max_depth}
use Rattle.json_recognizer.specs.Machine.{Next, goes, refused, step, is_final, after_all, goes_from}
use Rattle.json_recognizer.specs.State.{frames, next_of}
use Rattle.json_recognizer.specs.Stream.{is_over_in, is_over, ends_number, later, found_by, found_from, found_at, found_in, or_later, IsFound}
use Rattle.json_recognizer.specs.plan.Leads.{Leads}
use Rattle.json_recognizer.specs.declared.class.Class.{Class}
use Rattle.json_recognizer.specs.declared.class.Class.TheVariants.{Space, White, OpenBracket, OpenBrace, Quote}
use Rattle.json_recognizer.specs.declared.machine.NumberPart.TheVariants.{AfterZero, InWhole, InFraction, InExponent}
use Rattle.json_recognizer.specs.declared.machine.Mode.{Mode}
use Rattle.json_recognizer.specs.declared.machine.Mode.TheVariants.{Value, Behind, InNumber}
use Rattle.json_recognizer.specs.declared.state.State.{State}
use Rattle.json_recognizer.specs.declared.stream.Found.{Found}
use Rattle.json_recognizer.specs.declared.stream.Found.TheVariants.{GoesOn, Ends, Refused}
use Rattle.json_recognizer.proofs.Beginnings.{begins, begins_none, document_final, no_document, one_more}

-- ---- further on

pub later_none : (found : Found) → later 0 found ≡ found
later_none GoesOn = refl
later_none (Ends k) = let e : 0 + k ≡ k = omega arith in ap Ends e
later_none (Refused k) = let e : 0 + k ≡ k = omega arith in ap Refused e

pub later_more : (a b : ℕ) (found : Found) → later a (later b found) ≡ later (a + b) found
later_more a b GoesOn = refl
later_more a b (Ends k) = let e : a + (b + k) ≡ a + b + k = omega arith in ap Ends e
later_more a b (Refused k) = let e : a + (b + k) ≡ a + b + k = omega arith in ap Refused e

-- ---- one byte

module _ (m : Mode) (st : List Bool) (r : ℕ) (x : ℕ) (xs : List ℕ) where
  ends_before : (is_final m st && ends_number (class_of x)) ≡ true → found_from (goes m st r) (x ∷ xs) ≡ Ends 0
  unfolding found_from
  ends_before h = ap (λ b. cond b (Ends 0) (found_by (step m st r (class_of x)) (found_from (step m st r (class_of x)) xs))) h

  one_byte : (next : Next) → (is_final m st && ends_number (class_of x)) ≡ false → step m st r (class_of x) ≡ next → found_from (goes m st r) (x ∷ xs) ≡ found_by next (found_from next xs)
  unfolding found_from
  one_byte next h e = ap (λ b. cond b (Ends 0) (found_by (step m st r (class_of x)) (found_from (step m st r (class_of x)) xs))) h ∙ ap (λ n. found_by n (found_from n xs)) e

over_by : (m : Mode) (st : List Bool) (r : ℕ) (behind : Found) (over : Bool) → is_over_in m st ≡ over → found_by (goes m st r) behind ≡ cond over (Ends 1) (later 1 behind)
over_by m st r behind over h = ap (λ b. cond b (Ends 1) (later 1 behind)) h

over_or_later : (over : Bool) (behind : Found) → cond over (Ends 1) (later 1 behind) ≡ or_later (cond over (Ends 1) GoesOn) 1 behind
over_or_later true behind = refl
over_or_later false behind = refl

-- by the class and the tests of the code
module _ (s : State) (x : ℕ) (k : Class) (is : k ≡ class_of x) (ends : Bool) (test : ends ≡ (is_final s.mode (frames s.depth s.kinds) && ends_number k)) where
  here : ends ≡ (is_final s.mode (frames s.depth s.kinds) && ends_number (class_of x))
  here = test ∙ ap (λ k. is_final s.mode (frames s.depth s.kinds) && ends_number k) is

  pub ends_here : ends ≡ true → (more : List ℕ) → found_at s (x ∷ more) ≡ Ends 0
  ends_here h more = ends_before s.mode (frames s.depth s.kinds) (max_depth - s.depth) x more (sym here ∙ h)

-- a byte that leads on, and ends no number
pub leads_plainly : (s next : State) (x : ℕ) → (is_final s.mode (frames s.depth s.kinds) && ends_number (class_of x)) ≡ false → step s.mode (frames s.depth s.kinds) (max_depth - s.depth) (class_of x) ≡ next_of next → (found : Found) → found ≡ cond (is_over next) (Ends 1) GoesOn
    → (more : List ℕ) → found_at s (x ∷ more) ≡ or_later found 1 (found_at next more)
leads_plainly s next x none e found is_found more =
    one_byte s.mode (frames s.depth s.kinds) (max_depth - s.depth) x more (next_of next) none e
    ∙ over_or_later (is_over next) (found_at next more) ∙ ap (λ f. or_later f 1 (found_at next more)) (sym is_found)

pub refused_plainly : (s : State) (x : ℕ) → (is_final s.mode (frames s.depth s.kinds) && ends_number (class_of x)) ≡ false → step s.mode (frames s.depth s.kinds) (max_depth - s.depth) (class_of x) ≡ refused → (more : List ℕ) → found_at s (x ∷ more) ≡ Refused 0
refused_plainly s x none e more = one_byte s.mode (frames s.depth s.kinds) (max_depth - s.depth) x more refused none e

-- ---- bytes that lead to a mode in which the document is not over

-- what is over stays so
abbrev pub over_next : Next → Bool
over_next (goes m st r) = is_over_in m st
over_next refused = true

stays_over : (cs : List Class) (r : ℕ) → over_next (after_all Behind [] r cs) ≡ true
unfolding after_all
stays_over [] r = refl
stays_over (Space ∷ cs) r = stays_over cs r
stays_over (White ∷ cs) r = stays_over cs r
stays_over (c ∷ cs) r = refl

was_open : (m : Mode) (st : List Bool) (r : ℕ) (cs : List Class) → over_next (after_all m st r cs) ≡ false → is_over_in m st ≡ false
was_open Behind [] r cs h = let over = stays_over cs r in cc
was_open m st r cs h = refl

-- what ends a number leads to where it is over
pub no_end : (m : Mode) (st : List Bool) (r : ℕ) (c : Class) → is_over_in m st ≡ false → over_next (step m st r c) ≡ false → (is_final m st && ends_number c) ≡ false
no_end Behind [] r c o s = cc
no_end (InNumber AfterZero) [] r Space o s = cc
no_end (InNumber AfterZero) [] r White o s = cc
no_end (InNumber AfterZero) [] r OpenBracket o s = cc
no_end (InNumber AfterZero) [] r OpenBrace o s = cc
no_end (InNumber AfterZero) [] r Quote o s = cc
no_end (InNumber InWhole) [] r Space o s = cc
no_end (InNumber InWhole) [] r White o s = cc
no_end (InNumber InWhole) [] r OpenBracket o s = cc
no_end (InNumber InWhole) [] r OpenBrace o s = cc
no_end (InNumber InWhole) [] r Quote o s = cc
no_end (InNumber InFraction) [] r Space o s = cc
no_end (InNumber InFraction) [] r White o s = cc
no_end (InNumber InFraction) [] r OpenBracket o s = cc
no_end (InNumber InFraction) [] r OpenBrace o s = cc
no_end (InNumber InFraction) [] r Quote o s = cc
no_end (InNumber InExponent) [] r Space o s = cc
no_end (InNumber InExponent) [] r White o s = cc
no_end (InNumber InExponent) [] r OpenBracket o s = cc
no_end (InNumber InExponent) [] r OpenBrace o s = cc
no_end (InNumber InExponent) [] r Quote o s = cc
no_end (InNumber p) [] r c o s = refl
no_end (InNumber p) (k ∷ st) r c o s = refl
no_end m st r c o s = refl

module _ (more : List ℕ) (next : Next) (is_open : over_next next ≡ false) where
  by_next : (x : ℕ) (xs : List ℕ) (m : Mode) (st : List Bool) (r : ℕ) → is_over_in m st ≡ false → (by : Next) → step m st r (class_of x) ≡ by → goes_from by (λ m. λ st. λ r. after_all m st r (map class_of xs)) ≡ next
      → ((m : Mode) (st : List Bool) (r : ℕ) → after_all m st r (map class_of xs) ≡ next → found_from (goes m st r) (xs ++ more) ≡ later (length xs) (found_from next more))
      → found_from (goes m st r) (x ∷ (xs ++ more)) ≡ later (suc (length xs)) (found_from next more)
  by_next x xs m st r o refused e h behind = let over = ap over_next h in cc
  by_next x xs m st r o (goes m₁ st₁ r₁) e h behind =
      let open₁ : is_over_in m₁ st₁ ≡ false = was_open m₁ st₁ r₁ (map class_of xs) (ap over_next h ∙ is_open) in
      let found = found_from next more in
      one_byte m st r x (xs ++ more) (goes m₁ st₁ r₁) (no_end m st r (class_of x) o (ap over_next e ∙ open₁)) e ∙ over_by m₁ st₁ r₁ (found_from (goes m₁ st₁ r₁) (xs ++ more)) false open₁
      ∙ ap (later 1) (behind m₁ st₁ r₁ h) ∙ later_more 1 (length xs) found ∙ ap (λ j. later j found) (let e : 1 + length xs ≡ suc (length xs) = omega arith in e)

  run_on : (xs : List ℕ) (m : Mode) (st : List Bool) (r : ℕ) → after_all m st r (map class_of xs) ≡ next → found_from (goes m st r) (xs ++ more) ≡ later (length xs) (found_from next more)
  unfolding after_all
  run_on [] m st r h = ap (λ n. found_from n more) h ∙ sym (later_none (found_from next more))
  run_on (x ∷ xs) m st r h = by_next x xs m st r (was_open m st r (map class_of (x ∷ xs)) (ap over_next h ∙ is_open)) (step m st r (class_of x)) refl h (λ m. λ st. λ r. run_on xs m st r)

-- ---- a piece

module _ (s₀ s s₁ : State) (piece : List ℕ) (i n j : ℕ) (so_far : (more : List ℕ) → found_at s₀ (piece ++ more) ≡ later i (found_at s (drop i piece ++ more))) (is_open : is_over s₁ ≡ false) (same : s₁ ≡ record s { mode = s₁.mode }) (behind : List ℕ) (lies : behind ≡ drop i piece)
    (within : n ≤ length behind) (leads : Leads s.mode (take n behind) s₁.mode) (is : j ≡ i + n) where
  pub passed : (more : List ℕ) → found_at s₀ (piece ++ more) ≡ later j (found_at s₁ (drop j piece ++ more))
  passed more =
      let st = frames s.depth s.kinds in
      let r = max_depth - s.depth in
      let rest = drop n behind ++ more in
      let front : behind ++ more ≡ take n behind ++ rest = ap (λ xs. xs ++ more) (sym (take-append-drop n behind)) ∙ append_assoc (take n behind) (drop n behind) more in
      let run : found_at s (take n behind ++ rest) ≡ later (length (take n behind)) (found_at s₁ rest) = run_on rest (next_of s₁) is_open (take n behind) s.mode st r (leads st r ∙ sym (ap next_of same)) in
      let dropped : drop n behind ≡ drop j piece = ap (drop n) lies ∙ drop-drop n i piece ∙ ap (λ k. drop k piece) (sym is) in
      so_far more ∙ ap (λ xs. later i (found_at s (xs ++ more))) (sym lies) ∙ ap (later i) (ap (found_at s) front ∙ run ∙ ap (λ k. later k (found_at s₁ rest)) (length-take-le n behind within))
      ∙ later_more i n (found_at s₁ (drop n behind ++ more)) ∙ ap₂ (λ (k : ℕ) (xs : List ℕ). later k (found_at s₁ (xs ++ more))) (sym is) dropped

-- and a byte more
pub taken_one : (s₀ s next : State) (piece : List ℕ) (i : ℕ) (found : Found) → ((more : List ℕ) → found_at s₀ (piece ++ more) ≡ later i (found_at s (drop i piece ++ more))) → i < length piece
    → ((more : List ℕ) → found_at s (get_or piece i 0 ∷ more) ≡ or_later found 1 (found_at next more))
    → (more : List ℕ) → found_at s₀ (piece ++ more) ≡ later i (or_later found 1 (found_at next (drop (i + 1) piece ++ more)))
taken_one s₀ s next piece i found so_far below one more =
    let dropped : drop i piece ≡ get_or piece i 0 ∷ drop (i + 1) piece = drop-cons piece i 0 below ∙ ap (λ k. get_or piece i 0 ∷ drop k piece) (sym (add-one i)) in
    so_far more ∙ ap (λ xs. later i (found_at s (xs ++ more))) dropped ∙ ap (later i) (one (drop (i + 1) piece ++ more))

-- ---- what is found, by the grammar

both : (a b : Bool) → (a && b) ≡ true → a ≡ true
both true b h = refl
both false b h = h

over_final : (m : Mode) (st : List Bool) → is_over_in m st ≡ true → is_final m st ≡ true
over_final Behind [] h = refl
over_final m st h = cc

-- behind a front
abbrev IsFoundBehind : List ℕ → List ℕ → Found → Type 0
IsFoundBehind front text (Ends n) = (n ≤ length text) × IsDocument (front ++ take n text)
IsFoundBehind front text (Refused n) = (n < length text) × Begins (front ++ take n text) × (Begins (front ++ take (n + 1) text) → ⊥)
IsFoundBehind front text GoesOn = Begins (front ++ text) × (IsDocument (front ++ text) → ⊥)

one_on : (front : List ℕ) (x : ℕ) (xs : List ℕ) (found : Found) → IsFoundBehind (front ++ x ∷ []) xs found → IsFoundBehind front (x ∷ xs) (later 1 found)
one_on front x xs GoesOn h = (subst Begins (append_assoc front (x ∷ []) xs) h.0, λ d. h.1 (subst IsDocument (sym (append_assoc front (x ∷ []) xs)) d))
one_on front x xs (Ends n) h =
    let longer : 1 + n ≤ suc (length xs) = omega (arith, h.0) in
    let e : suc n ≡ 1 + n = omega arith in
    (longer, subst (λ k. IsDocument (front ++ take k (x ∷ xs))) e (subst IsDocument (append_assoc front (x ∷ []) (take n xs)) h.1))
one_on front x xs (Refused n) h =
    let longer : 1 + n < suc (length xs) = omega (arith, h.0) in
    let e : suc n ≡ 1 + n = omega arith in
    let f : 1 + n + 1 ≡ suc (n + 1) = omega arith in (
      longer,
      subst (λ k. Begins (front ++ take k (x ∷ xs))) e (subst Begins (append_assoc front (x ∷ []) (take n xs)) h.1),
      λ b. h.2 (subst Begins (sym (append_assoc front (x ∷ []) (take (n + 1) xs))) (subst (λ k. Begins (front ++ take k (x ∷ xs))) f b)),
    )

at_end : (front : List ℕ) (m : Mode) (st : List Bool) (r : ℕ) → after_all Value [] max_depth (map class_of front) ≡ goes m st r → (b : Bool) → is_final m st ≡ b → IsFoundBehind front [] (cond b (Ends 0) GoesOn)
at_end front m st r h true e = (omega arith, subst IsDocument (sym (append-nil front)) (document_final front m st r h e))
at_end front m st r h false e = (subst Begins (sym (append-nil front)) (begins front m st r h), λ d. no_document front m st r h e (subst IsDocument (append-nil front) d))

module _ (x : ℕ) (xs front : List ℕ) (behind : (m : Mode) (st : List Bool) (r : ℕ) → after_all Value [] max_depth (map class_of (front ++ x ∷ [])) ≡ goes m st r → IsFoundBehind (front ++ x ∷ []) xs (found_from (goes m st r) xs)) where
  by_over : (m : Mode) (st : List Bool) (r : ℕ) → after_all Value [] max_depth (map class_of (front ++ x ∷ [])) ≡ goes m st r → (b : Bool) → is_over_in m st ≡ b → IsFoundBehind front (x ∷ xs) (cond b (Ends 1) (later 1 (found_from (goes m st r) xs)))
  by_over m st r h true e = (omega arith, document_final (front ++ x ∷ []) m st r h (over_final m st e))
  by_over m st r h false e = one_on front x xs (found_from (goes m st r) xs) (behind m st r h)

  by_byte : (m : Mode) (st : List Bool) (r : ℕ) → after_all Value [] max_depth (map class_of front) ≡ goes m st r → (b : Bool) → (is_final m st && ends_number (class_of x)) ≡ b → (next : Next) → step m st r (class_of x) ≡ next
      → IsFoundBehind front (x ∷ xs) (cond b (Ends 0) (found_by next (found_from next xs)))
  by_byte m st r h true e next s = (omega arith, subst IsDocument (sym (append-nil front)) (document_final front m st r h (both (is_final m st) (ends_number (class_of x)) e)))
  by_byte m st r h false e refused s = (omega arith, subst Begins (sym (append-nil front)) (begins front m st r h), begins_none (front ++ x ∷ []) (one_more front x m st r h ∙ s))
  by_byte m st r h false e (goes m₁ st₁ r₁) s = by_over m₁ st₁ r₁ (one_more front x m st r h ∙ s) (is_over_in m₁ st₁) refl

meaning : (xs front : List ℕ) (m : Mode) (st : List Bool) (r : ℕ) → after_all Value [] max_depth (map class_of front) ≡ goes m st r → IsFoundBehind front xs (found_from (goes m st r) xs)
unfolding found_from
meaning [] front m st r h = at_end front m st r h (is_final m st) refl
meaning (x ∷ xs) front m st r h = by_byte x xs front (λ m. λ st. λ r. λ h. meaning xs (front ++ x ∷ []) m st r h) m st r h (is_final m st && ends_number (class_of x)) refl (step m st r (class_of x)) refl

whole : (text : List ℕ) (found : Found) → IsFoundBehind [] text found → IsFound text found
whole text GoesOn h = h
whole text (Ends n) h = h
whole text (Refused n) h = h

pub is_found : (text : List ℕ) → IsFound text (found_in text)
unfolding after_all
is_found text = whole text (found_in text) (meaning text [] Value [] max_depth refl)
