-- What `parse` reads, in the words of the numbers.
use Rattle.std.proofs.Common.{◌≡◌, ◌<◌, ◌≤◌, ◌&&◌, ◌^◌, ◌-◌, ◌*◌, ◌+◌, ℕ, Bool, true, false, List, [], ◌∷◌, Some, None, Result, ℤ, refl, sym, ◌∙◌, ap, subst, cond, arith, ltb, leb, length}
use Rattle.std.specs.Prelude.{slice_index, ◌==◌, ◌≢◌}
use Rattle.std.specs.Result.{result_ok}
use Rattle.std.proofs.lemmas.Bool.{and_parts, and_from, cond-true, cond-false, lt-ltb, ltb-true, le-leb, lt-leb, leb-true, ne_eqb, eqb-false, false_from_ne_true}
use Rattle.std.proofs.lemmas.Str.Parse.{IsNumeralModel, numerals_by_value, tells_all_ascii_digits, parse_plain, digits_value_short}
use Rattle.std.specs.Result.{OkIff}
use Rattle.std.proofs.lemmas.Nat.{pow-add}
use Rattle.std.proofs.Math.Nat.{mul-lt-mul_of_pos_right, one-le-pow}
use Rattle.std.specs.Str.{all_ascii_digits}
use Rattle.std.specs.Str.Parse.{IsNumeral, digits_value, without_leading_sign, ParsesUnsigned, ParsesSigned}
use mir.Syntax.{w64}
use mir.Val.{SFits}
use Rattle.jsonpath_paths.proofs.parser.SoundLemmas.{some_same}
use Rattle.jsonpath_paths.specs.Numbers.{index_of, range_step_of, digits_of, decimal_of, fraction_of, decimal_from, is_digits, is_negative, is_whole, without_minus, whole_bound, signed}

-- r is an Ok just where the test passes
pub by_test : {T E : Type 0} (r : Result T E) (P : Type 0) (v x : T) (b : Bool) → OkIff r P v → (b ≡ true → P) → (P → b ≡ true) → v ≡ x
    → result_ok r ≡ cond b (Some x) None
by_test r P v x b h to from e = grind arith

own : IsNumeralModel (λ ds. all_ascii_digits ds ≡ true) (digits_value 10)
own = numerals_by_value _ tells_all_ascii_digits

pub numeral_to : (ds : List ℕ) → is_digits ds ≡ true → IsNumeral 10 ds
numeral_to ds h = grind (arith, ltb-true, own)

pub numeral_from : (ds : List ℕ) → IsNumeral 10 ds → is_digits ds ≡ true
numeral_from ds h = and_from (ltb 0 (length ds)) (all_ascii_digits ds) (lt-ltb 0 (length ds) h.0) (own.from ds h.1)

abbrev bound : Bool → ℕ
bound negative = cond negative (2 ^ 63) (2 ^ 63 - 1)

fits_to : (negative : Bool) (n : ℕ) → n ≤ bound negative → SFits w64 (signed negative n)
fits_to negative n h = grind arith

fits_from : (negative : Bool) (n : ℕ) → SFits w64 (signed negative n) → n ≤ bound negative
fits_from negative n h = grind arith

pub parses_index : {E : Type 0} (bs : List ℕ) (r : Result ℤ E) → ParsesSigned w64 10 bs r → result_ok r ≡ index_of bs
unfolding index_of
parses_index bs r h =
    let ds = without_leading_sign bs in
    let n = digits_value 10 ds in
    let few = leb n (bound (is_negative bs)) in
    by_test r _ _ (signed (is_negative bs) n) (is_digits ds && few) h
    (λ t. let p = and_parts (is_digits ds) few t in (numeral_to ds p.0, fits_to (is_negative bs) n (leb-true n _ p.1)))
    (λ p. and_from (is_digits ds) few (numeral_from ds p.0) (le-leb n (bound (is_negative bs)) (fits_from (is_negative bs) n p.1)))
    refl

-- an index is a whole number of 64 bits with a sign
pub index_fits : (bs : List ℕ) (n : ℤ) → index_of bs ≡ Some n → SFits w64 n
unfolding index_of
index_fits bs n h = grind (arith, and_parts, fits_to, leb-true, some_same)

pub parses_range_step : {E : Type 0} (bs : List ℕ) (r : Result ℕ E) → ParsesUnsigned 64 10 bs r → result_ok r ≡ range_step_of bs
unfolding range_step_of
parses_range_step bs r h = grind (arith, and_from, and_parts, by_test, lt-ltb, numeral_from, numeral_to)

pub no_first : (c : ℕ) (bs : List ℕ) → 0 < c → ((rest : List ℕ) → bs ≢ c ∷ rest) → (slice_index bs 0 == c) ≡ false
no_first c [] p h = ne_eqb 0 c (λ e. absurd (omega arith))
no_first c (b ∷ bs) p h = ne_eqb b c (λ e. h bs (ap (λ x. x ∷ bs) e))

pub parses_digits : {E : Type 0} (bs : List ℕ) (r : Result ℕ E) → ParsesUnsigned 64 10 bs r → ((rest : List ℕ) → bs ≢ 43 ∷ rest) → result_ok r ≡ digits_of bs
parses_digits bs r h none =
    let n = digits_value 10 bs in
    by_test r ((all_ascii_digits bs ≡ true) × (0 < length bs) × (n < 2 ^ 64)) n n (is_digits bs && ltb n (2 ^ 64)) (parse_plain own 64 bs r h (eqb-false _ 43 (no_first 43 bs (omega arith) none)))
    (λ t. let p = and_parts (is_digits bs) (ltb n (2 ^ 64)) t in let q = and_parts (ltb 0 (length bs)) (all_ascii_digits bs) p.0 in
    (q.1, ltb-true 0 (length bs) q.0, ltb-true n (2 ^ 64) p.1))
    (λ p. and_from (is_digits bs) (ltb n (2 ^ 64)) (and_from (ltb 0 (length bs)) (all_ascii_digits bs) (lt-ltb 0 (length bs) p.1) p.0) (lt-ltb n (2 ^ 64) p.2))
    refl

-- fractions

pub fraction_none : (bs : List ℕ) → length bs ≡ 0 → Some 0 ≡ fraction_of bs
unfolding fraction_of
fraction_none bs h = grind arith

pub fraction_long : (bs : List ℕ) → 18 < length bs → None ≡ fraction_of bs
unfolding fraction_of
fraction_long bs h = grind (arith, cond-false, lt-leb)

few_digits : (bs : List ℕ) → is_digits bs ≡ true → length bs ≤ 18 → digits_value 10 bs < 10 ^ 18
few_digits bs h l = digits_value_short own bs 18 (and_parts (ltb 0 (length bs)) (all_ascii_digits bs) h).1 l

digits_some : (bs : List ℕ) → is_digits bs ≡ true → digits_value 10 bs < 2 ^ 64 → digits_of bs ≡ Some (digits_value 10 bs)
digits_some bs h l = cond-true (is_digits bs && ltb (digits_value 10 bs) (2 ^ 64)) _ None (and_from (is_digits bs) _ h (lt-ltb (digits_value 10 bs) (2 ^ 64) l))

pub fraction_refused : (bs : List ℕ) → 0 < length bs → length bs ≤ 18 → None ≡ digits_of bs → None ≡ fraction_of bs
unfolding fraction_of
fraction_refused bs n l h = grind (arith, cond-false, digits_some, few_digits)

digits_is : (bs : List ℕ) (n : ℕ) → Some n ≡ digits_of bs → (is_digits bs ≡ true) × (n ≡ digits_value 10 bs)
digits_is bs n h = grind arith

pub fraction_some : (bs : List ℕ) (n : ℕ) → 0 < length bs → length bs ≤ 18 → Some n ≡ digits_of bs → Some (n * 10 ^ (18 - length bs)) ≡ fraction_of bs
unfolding fraction_of
fraction_some bs n p l h = grind (arith, and_from, cond-true, digits_is, le-leb)

pub fraction_small : (bs : List ℕ) (n : ℕ) → length bs ≤ 18 → Some n ≡ digits_of bs → n * 10 ^ (18 - length bs) < 10 ^ 18
fraction_small bs n l h =
    let is = digits_is bs n h in
    let below : digits_value 10 bs < 10 ^ length bs = digits_value_short own bs (length bs) (and_parts (ltb 0 (length bs)) (all_ascii_digits bs) is.0).1 (omega arith) in
    let less : n * 10 ^ (18 - length bs) < 10 ^ length bs * 10 ^ (18 - length bs) =
    mul-lt-mul_of_pos_right {m = n} {n = 10 ^ length bs} {k = 10 ^ (18 - length bs)} (omega (arith, is.1)) (one-le-pow (18 - length bs) 10 (omega arith)) in
    let rest : length bs + (18 - length bs) ≡ 18 = omega arith in
    subst (λ m. n * 10 ^ (18 - length bs) < m) (sym (pow-add 10 (length bs) (18 - length bs)) ∙ ap (λ m. 10 ^ m) rest) less

-- decimals

whole_digits : (w : List ℕ) → is_whole w ≡ true → digits_of (without_minus w) ≡ Some (digits_value 10 (without_minus w))
whole_digits w h = grind (arith, digits_some, leb-true)

not_whole : (w fraction : List ℕ) → (is_whole w ≡ true → ⊥) → None ≡ decimal_of w fraction
unfolding decimal_of
not_whole w fraction h = sym (cond-false (is_whole w) _ None (false_from_ne_true (is_whole w) h))

pub decimal_no_digits : (w fraction : List ℕ) → None ≡ digits_of (without_minus w) → None ≡ decimal_of w fraction
decimal_no_digits w fraction h = not_whole w fraction (λ e. cc (h, whole_digits w e))

pub decimal_large : (w fraction : List ℕ) (n : ℕ) → Some n ≡ digits_of (without_minus w) → leb n (whole_bound (is_negative w)) ≡ false → None ≡ decimal_of w fraction
decimal_large w fraction n h large = grind (arith, digits_is, not_whole)

pub decimal_no_fraction : (w fraction : List ℕ) → None ≡ fraction_of fraction → None ≡ decimal_of w fraction
unfolding decimal_of
decimal_no_fraction w fraction h = grind arith

pub decimal_some : (w fraction : List ℕ) (n u : ℕ) → Some n ≡ digits_of (without_minus w) → leb n (whole_bound (is_negative w)) ≡ true → Some u ≡ fraction_of fraction
    → Some (decimal_from (is_negative w) n u) ≡ decimal_of w fraction
unfolding decimal_of
decimal_some w fraction n u h small e = grind arith
