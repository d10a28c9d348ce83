-- The table is held against the machine by computing.
use Rattle.std.proofs.Common.{rules, ◌≡◌, ℕ, zero, suc, ◌+◌, ◌-◌, ◌<◌, ◌≤◌, ◌==◌, ◌||◌, ◌&&◌, nat_le, nat_lt, List, [], ◌∷◌, length, get_or, map, Bool, true, false, refl, sym, ap, subst, ◌∙◌, ◌⊎◌, inl, inr, arith}
use Rattle.std.proofs.lemmas.List.{get_or-map, length-map}
use Rattle.std.proofs.lemmas.List.FromFn.{get_or-map-range_with_len, get_or-range_with_len}
use Rattle.std.specs.List.{range_with_len}
use Rattle.json_recognizer.specs.Classes.{class_of}
use Rattle.json_recognizer.specs.Machine.{move, is_final}
use Rattle.json_recognizer.specs.Stream.{ends_number, is_over_in}
use Rattle.json_recognizer.specs.plan.Rows.{IsRow, IsLetter, mode_at, does, ends_alone}
use Rattle.json_recognizer.specs.declared.class.Class.{Class}
use Rattle.json_recognizer.specs.declared.class.Class.TheVariants.{Space, White, Control, OpenBracket, CloseBracket, OpenBrace, CloseBrace, Comma, Colon, Quote, Backslash, Slash, Minus, Plus, Dot, Zero, Low, High, SmallA, SmallB, AnyC, AnyD, SmallE, LargeE, SmallF, LargeAb, LargeF, T, R, U, L, S, N, Plain, Tail80, Tail90, TailA0, Lead2, LeadE0, Lead3, LeadEd, LeadF0, Lead4, LeadF4, Never}
use Rattle.json_recognizer.specs.declared.machine.Mode.{Mode}
use Rattle.json_recognizer.specs.declared.machine.Mode.TheVariants.{Value, Behind}
use Rattle.json_recognizer.specs.declared.machine.Move.{Move}
use Rattle.json_recognizer.specs.declared.machine.Move.TheVariants.{To}
use Rattle.json_recognizer.specs.declared.machine.Top.{Top}
use Rattle.json_recognizer.specs.declared.machine.Top.TheVariants.{Outside, InArray, InObject}
use Rattle.json_recognizer.specs.declared.table.TheConstants.{MODES, TABLE}

-- where two lists are the same under two functions, so are their elements
same_at : {X Y Z : Type 0} (f : X → Z) (g : Y → Z) (xs : List X) (ys : List Y) (i : ℕ) (d : X) (e : Y) → i < length xs → i < length ys → map f xs ≡ map g ys → f (get_or xs i d) ≡ g (get_or ys i e)
same_at f g xs ys i d e lx ly same = sym (get_or-map f xs i d (f d) lx) ∙ ap (λ zs. get_or zs i (f d)) same ∙ get_or-map g ys i e (f d) ly

-- ---- the columns

classes : List Class
classes =
    Space ∷ White ∷ Control ∷ OpenBracket ∷ CloseBracket ∷ OpenBrace ∷ CloseBrace ∷ Comma ∷ Colon ∷ Quote ∷ Backslash ∷ Slash ∷ Minus ∷ Plus ∷ Dot ∷ Zero ∷ Low ∷ High ∷ SmallA ∷ SmallB ∷ AnyC ∷ AnyD ∷ SmallE ∷ LargeE ∷ SmallF ∷ LargeAb ∷ LargeF ∷ T ∷ R ∷ U ∷ L ∷ S ∷ N
    ∷ Plain ∷ Tail80 ∷ Tail90 ∷ TailA0 ∷ Lead2 ∷ LeadE0 ∷ Lead3 ∷ LeadEd ∷ LeadF0 ∷ Lead4 ∷ LeadF4 ∷ Never ∷ []

record Column : Type 0 where
  class : Class
  within : Bool

by_letter : ℕ → Column
by_letter k = record { class = get_or classes (k - 35) Never; within = nat_le 35 k && nat_lt k 80 }

by_byte : ℕ → Column
by_byte b = record { class = class_of b; within = true }

columns_agree : map by_byte (range_with_len 0 256) ≡ map by_letter TABLE.columns
unfolding by_letter by_byte classes
columns_agree = refl

within_of : (k : ℕ) → (nat_le 35 k && nat_lt k 80) ≡ true → (35 ≤ k) × (k - 35 < 45)
within_of k h = search (rules, arith)

module _ (byte : ℕ) (lt : byte < 256) where
  at_byte : by_byte byte ≡ by_letter (get_or TABLE.columns byte 0)
  at_byte = sym (get_or-map-range_with_len by_byte 0 256 byte byte (by_byte 0) lt (omega arith)) ∙ ap (λ columns. get_or columns byte (by_byte 0)) columns_agree ∙ get_or-map by_letter TABLE.columns byte 0 (by_byte 0) lt

  class_at : get_or classes (get_or TABLE.columns byte 0 - 35) Never ≡ class_of byte
  unfolding by_letter by_byte
  class_at = sym (ap (λ column. column.class) at_byte)

  pub column_within : (35 ≤ get_or TABLE.columns byte 0) × (get_or TABLE.columns byte 0 - 35 < 45)
  unfolding by_letter by_byte
  column_within = within_of (get_or TABLE.columns byte 0) (sym (ap (λ column. column.within) at_byte))

-- ---- the rows

-- it leaves a mode that it is not in
leaves : Mode → Move → Bool
leaves Behind next = false
leaves m (To Behind) = true
leaves m next = false

-- a number alone ends before it
ends_before : Mode → Class → Bool
ends_before Behind c = false
ends_before m c = is_final m [] && ends_number c

record Told : Type 0 where
  outside : Move
  in_array : Move
  in_object : Move
  ends : Bool
  leaves : Bool
  within : Bool

told : Mode → Class → Told
told m c = record { outside = move m Outside c; in_array = move m InArray c; in_object = move m InObject c; ends = ends_before m c; leaves = leaves m (move m Outside c); within = true }

meant : ℕ → Told
meant l = record { outside = does l Outside; in_array = does l InArray; in_object = does l InObject; ends = ends_alone l; leaves = (l == 47) || (l == 38); within = nat_lt l 112 }

-- each row means what the machine does in its mode
Agree : List Mode → List (List ℕ) → Type 0
Agree [] rows = Unit {0}
Agree (m ∷ ms) [] = ⊥
Agree (m ∷ ms) (row ∷ rows) = (map (told m) classes ≡ map meant row) × Agree ms rows

all_agree : Agree MODES TABLE.letters
unfolding Agree told meant leaves ends_before classes
all_agree = (refl, (refl, (refl, (refl, (refl, (refl, (refl, (refl, (refl, (refl, (refl, (refl, (refl, (refl, (refl, (refl, (refl, (refl, (refl, (refl, (refl, (refl, (refl, (refl, (refl, (refl, (refl, (refl, (refl, (refl, (refl, (refl, (refl, (refl, (refl, (refl, (refl, (refl, (refl, (refl, (refl, (refl, (refl, (refl, (refl, (refl, (refl, (refl, (refl, (refl, (refl, (refl, (refl, (refl, (refl, (refl, (refl, (refl, (refl, (refl, (refl, (refl, (refl, (refl, tt))))))))))))))))))))))))))))))))))))))))))))))))))))))))))))))))

row_at : (ms : List Mode) (rows : List (List ℕ)) → Agree ms rows → (i : ℕ) → i < length ms → map (told (get_or ms i Value)) classes ≡ map meant (get_or rows i [])
unfolding Agree
row_at [] rows agree i lt = absurd (omega (arith, lt))
row_at (m ∷ ms) [] agree i lt = absurd agree
row_at (m ∷ ms) (row ∷ rows) agree zero lt = agree.0
row_at (m ∷ ms) (row ∷ rows) agree (suc i) lt = row_at ms rows agree.1 i (omega (arith, lt))

-- where it leads to the mode behind a value, it was there
stays_behind : (m n : Mode) → n ≡ Behind → leaves m (To n) ≡ false → m ≡ Behind
unfolding leaves
stays_behind m n is h = search rules

by_top : (m : Mode) (c : Class) (l : ℕ) → told m c ≡ meant l → (t : Top) → move m t c ≡ does l t
unfolding told meant
by_top m c l same Outside = ap (λ told. told.outside) same
by_top m c l same InArray = ap (λ told. told.in_array) same
by_top m c l same InObject = ap (λ told. told.in_object) same

by_end : (m : Mode) (c : Class) (b : Bool) → ends_before m c ≡ b → (m ≡ Behind → ⊥) → (is_final m [] && ends_number c) ≡ b
unfolding ends_before
by_end Behind c b h other = absurd (other refl)
by_end m c b h other = h

pub leads_to_row : (l : ℕ) (t : Top) → 48 ≤ l → does l t ≡ To (mode_at l)
leads_to_row l t le = search (rules, arith)

no_other : (l : ℕ) → 48 ≤ l → ((l == 47) || (l == 38)) ≡ false
no_other l le = search (rules, arith)

by_meaning : (m : Mode) (c : Class) (l : ℕ) → told m c ≡ meant l → IsLetter m c l
unfolding told meant
by_meaning m c l same = record {
  moves = by_top m c l same;
  ends = by_end m c (ends_alone l) (ap (λ told. told.ends) same);
  row = λ le. (le, let h = ap (λ told. told.within) same in search (rules, arith));
  stays = λ le is. stays_behind m (mode_at l) is (ap (leaves m) (sym (by_top m c l same Outside ∙ leads_to_row l Outside le)) ∙ ap (λ told. told.leaves) same ∙ no_other l le);
}

module _ (row byte : ℕ) (is_row : IsRow row) (lt : byte < 256) where
  column : ℕ
  column = get_or TABLE.columns byte 0 - 35

  letters : List ℕ
  letters = get_or TABLE.letters (row - 48) []

  row_means : map (told (mode_at row)) classes ≡ map meant letters
  unfolding letters
  row_means = row_at MODES TABLE.letters all_agree (row - 48) (omega (arith, is_row))

  pub is_letter : IsLetter (mode_at row) (class_of byte) (get_or (get_or TABLE.letters (row - 48) []) (get_or TABLE.columns byte 0 - 35) 0)
  unfolding letters column classes
  is_letter =
      let long : 45 ≡ length letters = sym (length-map classes (told (mode_at row))) ∙ ap length row_means ∙ length-map letters meant in
      let within = (column_within byte lt).1 in
      let here = same_at (told (mode_at row)) meant classes letters column Never 0 within (omega (arith, long, within)) row_means in
      by_meaning (mode_at row) (class_of byte) _ (ap (told (mode_at row)) (sym (class_at byte lt)) ∙ here)

letter_of : ℕ → ℕ → ℕ
letter_of row byte = get_or (get_or TABLE.letters (row - 48) []) (get_or TABLE.columns byte 0 - 35) 0

digit_stays : (row byte : ℕ) → IsRow row → map (letter_of row) (range_with_len 48 10) ≡ map (λ digit. row) (range_with_len 48 10) → 48 ≤ byte → byte < 58 → IsLetter (mode_at row) (class_of byte) row
unfolding letter_of
digit_stays row byte is_row stay lo hi =
    let lt : byte - 48 < 10 = omega (arith, lo, hi) in
    let is : 48 + (byte - 48) ≡ byte = omega (arith, lo) in
    let letter : letter_of row byte ≡ row =
    sym (get_or-map-range_with_len (letter_of row) 48 10 (byte - 48) byte 0 lt is) ∙ ap (λ letters. get_or letters (byte - 48) 0) stay ∙ get_or-map-range_with_len (λ digit. row) 48 10 (byte - 48) byte 0 lt is
    in
    subst (IsLetter (mode_at row) (class_of byte)) letter (is_letter row byte is_row (omega (arith, hi)))

-- one more digit leaves a number in its row
pub digit_letter : (row byte : ℕ) → (row ≡ 56) ⊎ (row ≡ 58) ⊎ (row ≡ 61) → 48 ≤ byte → byte < 58 → IsLetter (mode_at row) (class_of byte) row
unfolding letter_of
digit_letter row byte (inl is) lo hi = subst (λ row. IsLetter (mode_at row) (class_of byte) row) (sym is) (digit_stays 56 byte (omega arith, omega arith) refl lo hi)
digit_letter row byte (inr (inl is)) lo hi = subst (λ row. IsLetter (mode_at row) (class_of byte) row) (sym is) (digit_stays 58 byte (omega arith, omega arith) refl lo hi)
digit_letter row byte (inr (inr is)) lo hi = subst (λ row. IsLetter (mode_at row) (class_of byte) row) (sym is) (digit_stays 61 byte (omega arith, omega arith) refl lo hi)

rows_over : map (λ m. is_over_in m []) MODES ≡ map (λ row. row == 50) (range_with_len 48 64)
rows_over = refl

pub over_row : (row : ℕ) → IsRow row → is_over_in (mode_at row) [] ≡ (row == 50)
over_row row is_row =
    let lt : row - 48 < 64 = omega (arith, is_row) in
    let back : 48 + (row - 48) ≡ row = omega (arith, is_row) in
    same_at (λ m. is_over_in m []) (λ row. row == 50) MODES (range_with_len 48 64) (row - 48) Value 0 lt lt rows_over ∙ ap (λ row. row == 50) (get_or-range_with_len 48 64 (row - 48) 0 lt ∙ back)
