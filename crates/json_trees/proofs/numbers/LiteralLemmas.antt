-- Literals of paths: the fractions that they are.
use Rattle.std.proofs.Common.{◌≡◌, ℕ, suc, ◌*◌, ◌^◌, ◌<◌, ℤ, pos, negsuc, Bool, true, false, cond, drop, List, [], ◌∷◌, ◌++◌, length, refl, ap, ◌∙◌, arith, ne_eqb, lit<}
use Rattle.std.specs.Prelude.{FitsSigned, unsigned_abs, codes}
use Rattle.std.specs.Fmt.{decimal, signed_decimal}
use Rattle.std.specs.Int.{w128}
use Rattle.std.specs.Str.Parse.{AllDigits, digits_value}
use Rattle.std.proofs.lemmas.Fmt.{decimal_is_IsNumeral_wide}
use Rattle.std.proofs.lemmas.Float.Parse.{scan_numeral-text_of}
use Rattle.std.proofs.lemmas.Int.{ints}
use Rattle.std.proofs.lemmas.List.{append-nil}
use Rattle.std.proofs.lemmas.Str.Parse.{digit_from_value}
use Rattle.fast_float.specs.Text.{Parts, scan, IsWellFormed, digits_of, with_sign}
use Rattle.jsonpath_paths.specs.Numbers.{decimal_units}
use Rattle.jsonpath_paths.specs.declared.decimal.Decimal.{Decimal}
use Rattle.json_trees.specs.NumberKey.{is_negative, literal_text}
use Rattle.json_trees.specs.OrderedTree.{text_fraction}
use Rattle.json_trees.proofs.numbers.FractionLemmas.{of_parts}

-- so many units of 10^-18
abbrev units_parts : ℕ → Parts
units_parts n = record {
  whole = decimal n;
  point = false;
  fraction = [];
  exponent_negative = true;
  exponent = 49 ∷ 56 ∷ [];
  len = length (decimal n ++ codes "e-18");
}

well_formed : (n : ℕ) → n < 10 ^ 64 → IsWellFormed (units_parts n)
well_formed n small = record {
  whole_digits = (decimal_is_IsNumeral_wide n small).0.1;
  fraction_digits = tt;
  exponent_digits = (lit< tt, (lit< tt, tt));
  no_point = λ e. refl;
  no_exponent = λ e. absurd (cc);
  len_is = refl;
}

scanned : (n : ℕ) → n < 10 ^ 64 → scan (decimal n ++ codes "e-18") ≡ units_parts n
scanned n small = scan_numeral-text_of (units_parts n) (well_formed n small)

first_digit : (ds ys : List ℕ) → 0 < length ds → AllDigits 10 ds → is_negative (ds ++ ys) ≡ false
first_digit [] ys some h = absurd (omega (arith, some))
first_digit (d ∷ ds) ys some h =
    let range = digit_from_value d h.0 in
    ne_eqb d 45 (λ is. omega (arith, range, is))

plus_sign : (n : ℕ) → n < 10 ^ 64 → is_negative (decimal n ++ codes "e-18") ≡ false
plus_sign n small = let digits = (decimal_is_IsNumeral_wide n small).0 in first_digit (decimal n) (codes "e-18") digits.0 digits.1

abs_small : (u : ℤ) → FitsSigned w128 u → unsigned_abs u < 10 ^ 64
abs_small (pos n) h = omega (arith, ints, h)
abs_small (negsuc n) h = omega (arith, ints, h)

of_text : (s : List ℕ) (b : Bool) (p : Parts) → is_negative s ≡ b → scan (cond b (drop 1 s) s) ≡ p → text_fraction s ≡ of_parts b p
of_text s b p h i = ap (λ c. of_parts c (scan (cond c (drop 1 s) s))) h ∙ ap (of_parts b) i

fraction_of_units : (b : Bool) (n : ℕ) → n < 10 ^ 64 → of_parts b (units_parts n) ≡ (with_sign b n, 18)
fraction_of_units b n small =
    let value : digits_of (units_parts n) ≡ n = ap (digits_value 10) (append-nil (decimal n)) ∙ (decimal_is_IsNumeral_wide n small).1 in
    let once : n * 10 ^ 0 ≡ n = omega arith in
    ap (λ v. (with_sign b v, 18)) (ap (λ v. v * 10 ^ 0) value ∙ once)

units_fraction : (u : ℤ) → unsigned_abs u < 10 ^ 64 → text_fraction (signed_decimal u ++ codes "e-18") ≡ (u, 18)
units_fraction (pos n) small = of_text (decimal n ++ codes "e-18") false (units_parts n) (plus_sign n small) (scanned n small) ∙ fraction_of_units false n small
units_fraction (negsuc n) small = of_text (45 ∷ (decimal (suc n) ++ codes "e-18")) true (units_parts (suc n)) refl (scanned (suc n) small) ∙ fraction_of_units true (suc n) small

pub literal_fraction : (d : Decimal) → FitsSigned w128 (decimal_units d) → text_fraction (literal_text d) ≡ (decimal_units d, 18)
literal_fraction d fits = units_fraction (decimal_units d) (abs_small (decimal_units d) fits)
