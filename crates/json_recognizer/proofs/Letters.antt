-- What a letter tells of the byte: whether the document goes on, ends or is refused.
use Rattle.std.proofs.Common.{rules, ◌≡◌, ℕ, zero, suc, ◌+◌, ◌-◌, ◌<◌, ◌≤◌, List, [], ◌∷◌, ◌++◌, get_or, drop, length, Bool, true, false, cond, ◌&&◌, refl, sym, ap, subst, ◌∙◌, arith, ◌⊎◌, inl, inr}
use Rattle.json_recognizer.specs.Classes.{class_of}
use Rattle.json_recognizer.specs.Grammar.{max_depth}
use Rattle.json_recognizer.specs.Machine.{Next, refused, apply, step, top_of, is_final}
use Rattle.json_recognizer.specs.State.{frames, next_of}
use Rattle.json_recognizer.specs.Stream.{is_over_in, is_over, ends_number, found_at, later, or_later}
use Rattle.json_recognizer.specs.plan.Rows.{IsOpen, IsLetter, mode_at, at_row, does, ends_alone, Steps, Reaches, FoundBy}
use Rattle.json_recognizer.specs.plan.Leads.{Leads, AreChars}
use Rattle.json_recognizer.specs.declared.class.Class.{Class}
use Rattle.json_recognizer.specs.declared.machine.Mode.{Mode}
use Rattle.json_recognizer.specs.declared.machine.Mode.TheVariants.{Behind, InNumber}
use Rattle.json_recognizer.specs.declared.state.State.{State}
use Rattle.json_recognizer.specs.declared.stream.Found.{Found}
use Rattle.json_recognizer.specs.declared.stream.Found.TheVariants.{GoesOn, Ends, Refused}
use Rattle.json_recognizer.proofs.Streams.{over_next, no_end, ends_here, leads_plainly, refused_plainly, taken_one, later_none, later_more}
use Rattle.json_recognizer.proofs.Rows.{is_letter, leads_to_row}

-- a document does not end in an array or object
final_open : (m : Mode) (k : Bool) (st : List Bool) → is_final m (k ∷ st) ≡ false
final_open Behind k st = refl
final_open (InNumber p) k st = refl
final_open m k st = refl

not_behind : (m : Mode) → is_over_in m [] ≡ false → m ≡ Behind → ⊥
not_behind m unended is = let over = ap (λ m. is_over_in m []) is in cc

none_open : (d : ℕ) (ks : List Bool) → is_over_in Behind (frames d ks) ≡ true → d ≡ 0
none_open zero ks h = refl
none_open (suc d) ks h = cc

neither : (l : ℕ) → (l ≡ 37 → ⊥) → (l ≡ 38 → ⊥) → ends_alone l ≡ false
neither l a b = search (rules, arith)

no_number : (m : Mode) (d : ℕ) (ks : List Bool) (c : Class) (l : ℕ) → IsLetter m c l → is_over_in m (frames d ks) ≡ false → (d ≡ 0 → ends_alone l ≡ false) → (is_final m (frames d ks) && ends_number c) ≡ false
no_number m zero ks c l letter unended none = letter.ends (not_behind m unended) ∙ none refl
no_number m (suc d) ks c l letter unended none = ap (λ b. b && ends_number c) (final_open m (get_or ks d false) (frames d ks))

number : (m : Mode) (d : ℕ) (ks : List Bool) (c : Class) (l : ℕ) → IsLetter m c l → is_over_in m (frames d ks) ≡ false → d ≡ 0 → ends_alone l ≡ true → (is_final m (frames d ks) && ends_number c) ≡ true
number m zero ks c l letter unended is h = letter.ends (not_behind m unended) ∙ h
number m (suc d) ks c l letter unended is h = absurd (omega (arith, is))

module _ (s : State) (x l : ℕ) (letter : IsLetter s.mode (class_of x) l) (unended : is_over s ≡ false) where
  -- the letter's move leads to it
  Makes : Next → Type 0
  Makes next = apply (does l (top_of (frames s.depth s.kinds))) (frames s.depth s.kinds) (max_depth - s.depth) ≡ next

  steps_to : (next : Next) → Makes next → step s.mode (frames s.depth s.kinds) (max_depth - s.depth) (class_of x) ≡ next
  unfolding Makes
  steps_to next h = ap (λ v. apply v (frames s.depth s.kinds) (max_depth - s.depth)) (letter.moves (top_of (frames s.depth s.kinds))) ∙ h

  stands_alone : s.depth ≡ 0 → ends_alone l ≡ true → (more : List ℕ) → found_at s (x ∷ more) ≡ Ends 0
  stands_alone none h = ends_here s x (class_of x) refl true (sym (number s.mode s.depth s.kinds (class_of x) l letter unended none h)) refl

  no_end_here : (l ≡ 37 → s.depth ≡ 0 → ⊥) → (l ≡ 38 → s.depth ≡ 0 → ⊥) → (is_final s.mode (frames s.depth s.kinds) && ends_number (class_of x)) ≡ false
  no_end_here a b = no_number s.mode s.depth s.kinds (class_of x) l letter unended (λ none. neither l (λ is. a is none) (λ is. b is none))

  pub stands_alone_wrong : s.depth ≡ 0 → l ≡ 37 → (more : List ℕ) → found_at s (x ∷ more) ≡ Ends 0
  stands_alone_wrong none is = stands_alone none (ap ends_alone is)

  pub wrong : apply (does l (top_of (frames s.depth s.kinds))) (frames s.depth s.kinds) (max_depth - s.depth) ≡ refused → (l ≡ 37 → s.depth ≡ 0 → ⊥) → (more : List ℕ) → found_at s (x ∷ more) ≡ Refused 0
  unfolding Makes
  wrong h other =
      let none : l ≡ 38 → s.depth ≡ 0 → ⊥ = λ is _. let e = sym (ap (λ l. apply (does l (top_of (frames s.depth s.kinds))) (frames s.depth s.kinds) (max_depth - s.depth)) is) ∙ h in cc in
      refused_plainly s x (no_end_here other none) (steps_to refused h)

  module _ (next : State) (h : apply (does l (top_of (frames s.depth s.kinds))) (frames s.depth s.kinds) (max_depth - s.depth) ≡ next_of next) where
    step_is : step s.mode (frames s.depth s.kinds) (max_depth - s.depth) (class_of x) ≡ next_of next
    unfolding Makes
    step_is = steps_to (next_of next) h

    pub goes_on : is_over next ≡ false → (more : List ℕ) → found_at s (x ∷ more) ≡ later 1 (found_at next more)
    goes_on ahead =
        leads_plainly s next x (no_end s.mode (frames s.depth s.kinds) (max_depth - s.depth) (class_of x) unended (ap over_next step_is ∙ ahead)) step_is GoesOn (sym (ap (λ over. cond over (Ends 1) GoesOn) ahead))

    pub ends_one : is_over next ≡ true → (l ≡ 38 → ⊥) → (more : List ℕ) → found_at s (x ∷ more) ≡ Ends 1
    ends_one over other =
        let right : l ≡ 37 → s.depth ≡ 0 → ⊥ = λ is _. let e = sym (ap (λ l. apply (does l (top_of (frames s.depth s.kinds))) (frames s.depth s.kinds) (max_depth - s.depth)) is) ∙ h in cc in
        leads_plainly s next x (no_end_here right (λ is _. other is)) step_is (Ends 1) (sym (ap (λ over. cond over (Ends 1) GoesOn) over))

    pub ends_behind : is_over next ≡ true → l ≡ 38 → (more : List ℕ) → found_at s (x ∷ more) ≡ Ends 0
    ends_behind over is =
        let e = ap over_next (sym (ap (λ l. apply (does l (top_of (frames s.depth s.kinds))) (frames s.depth s.kinds) (max_depth - s.depth)) is) ∙ h) ∙ over in
        stands_alone (none_open s.depth s.kinds e) (ap ends_alone is)

-- ---- along a piece

module _ (s₀ s next : State) (piece : List ℕ) (i : ℕ) (so_far : Reaches s₀ piece i s) (lt : i < length piece) where
  pub reaches_one : Steps s (get_or piece i 0) next → Reaches s₀ piece (i + 1) next
  reaches_one one more = taken_one s₀ s next piece i GoesOn so_far lt one more ∙ later_more i 1 (found_at next (drop (i + 1) piece ++ more))

  pub ends_at : (k : ℕ) → ((more : List ℕ) → found_at s (get_or piece i 0 ∷ more) ≡ Ends k) → (more : List ℕ) → found_at s₀ (piece ++ more) ≡ Ends (i + k)
  ends_at k one more = taken_one s₀ s next piece i (Ends k) so_far lt one more

  pub refused_at : (k : ℕ) → ((more : List ℕ) → found_at s (get_or piece i 0 ∷ more) ≡ Refused k) → (more : List ℕ) → found_at s₀ (piece ++ more) ≡ Refused (i + k)
  refused_at k one more = taken_one s₀ s next piece i (Refused k) so_far lt one more

-- ---- from row to row

still_open : (m n : Mode) (st : List Bool) → (n ≡ Behind → m ≡ Behind) → is_over_in m st ≡ false → is_over_in n st ≡ false
still_open m Behind st same h = subst (λ m. is_over_in m st ≡ false) (same refl) h
still_open m n st same h = refl

module _ (s : State) (row x l : ℕ) (letter : IsLetter (mode_at row) (class_of x) l) (ready : IsOpen s row) (le : 48 ≤ l) where
  pub to_row_open : IsOpen s l
  to_row_open = record { is_row = letter.row le; depth = ready.depth; unended = still_open (mode_at row) (mode_at l) (frames s.depth s.kinds) (letter.stays le) ready.unended }

  pub to_row : Steps (at_row s row) x (at_row s l)
  to_row =
      goes_on (at_row s row) x l letter ready.unended (at_row s l) (ap (λ v. apply v (frames s.depth s.kinds) (max_depth - s.depth)) (leads_to_row l (top_of (frames s.depth s.kinds)) le)) to_row_open.unended

-- the quote that closes a name, and a text in an array or object
pub closes_name : (s : State) → Steps (at_row s 73) 34 (at_row s 53)
closes_name s = goes_on (at_row s 73) 34 53 (is_letter 73 34 (omega arith, omega arith) (omega arith)) refl (at_row s 53) refl refl

inside_open : (d : ℕ) (ks : List Bool) → (d ≡ 0 → ⊥) → is_over_in Behind (frames d ks) ≡ false
inside_open zero ks inside = absurd (inside refl)
inside_open (suc d) ks inside = refl

pub closes_text : (s : State) → (s.depth ≡ 0 → ⊥) → Steps (at_row s 72) 34 (at_row s 50)
closes_text s inside = goes_on (at_row s 72) 34 47 (is_letter 72 34 (omega arith, omega arith) (omega arith)) refl (at_row s 50) refl (inside_open s.depth s.kinds inside)

pub chars_lead : (row : ℕ) (text : List ℕ) → (row ≡ 72) ⊎ (row ≡ 73) → AreChars text → Leads (mode_at row) text (mode_at row)
chars_lead row text (inl is) chars = subst (λ row. Leads (mode_at row) text (mode_at row)) (sym is) (chars false)
chars_lead row text (inr is) chars = subst (λ row. Leads (mode_at row) text (mode_at row)) (sym is) (chars true)

pub at_first : (s : State) (piece : List ℕ) → Reaches s piece 0 s
at_first s piece more = sym (later_none (found_at s (piece ++ more)))

pub found_other : (s₀ s : State) (piece : List ℕ) (i : ℕ) (found : Found) → (found ≡ GoesOn → ⊥) → FoundBy s₀ piece found i s → (more : List ℕ) (n : ℕ) (behind : Found) → found_at s₀ (piece ++ more) ≡ or_later found n behind
found_other s₀ s piece i GoesOn other h more n behind = absurd (other refl)
found_other s₀ s piece i (Ends k) other h more n behind = h more
found_other s₀ s piece i (Refused k) other h more n behind = h more
