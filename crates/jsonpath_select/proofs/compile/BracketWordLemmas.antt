-- The test of a word in brackets tells exactly the words that may stand there.
use Rattle.std.proofs.Common.{◌≡◌, ◌<◌, ◌+◌, ◌-◌, ◌*◌, ◌^◌, ◌%◌, ◌/◌, ℕ, suc, ℤ, pos, negsuc, Bool, true, ◌&&◌, length, Some, None, cond, refl, sym, ap, ◌∙◌, arith, is_some, FitsSigned, neg_ℤ, ◌*ℤ◌}
use Rattle.std.specs.Int.{w64, int_div_euclid, int_rem_euclid}
use Rattle.std.proofs.lemmas.Bool.{and_parts, and_from, le-leb, leb-true, lt-ltb, ltb-true, eqb-true}
use Rattle.std.proofs.lemmas.Nat.{div-mul-add, mod-mul-add, mod_below, div-add-mod'}
use Rattle.std.proofs.Math.Nat.{mul-mod_left, mul-div_cancel}
use Rattle.jsonpath_paths.specs.Numbers.{units_of_one}
use Rattle.jsonpath_paths.specs.tree.WellFormed.{IsBracketWord, IsIndex}
use Rattle.jsonpath_paths.specs.declared.decimal.Decimal.{Decimal}
use Rattle.jsonpath_paths.specs.declared.token.tokens.ParseToken.{ParseToken}
use Rattle.jsonpath_paths.specs.declared.token.tokens.ParseToken.TheVariants as t
use Rattle.jsonpath_select.specs.Parts.{index_in, is_index_of_64_bits, is_zero}
use Rattle.jsonpath_select.specs.plan.Fits.{may_stand_alone_in_brackets}

-- ---- whole multiples of a unit

module _ (unit : ℕ) (positive : 0 < unit) where
  one_less : (a : ℕ) → suc a * unit ≡ suc (a * unit + (unit - 1))
  one_less a = omega arith

  no_rest : (n : ℤ) → int_rem_euclid (n *ℤ pos unit) (pos unit) ≡ pos 0
  no_rest (pos a) = ap pos (mul-mod_left a unit)
  no_rest (negsuc a) =
      let rest : (a * unit + (unit - 1)) % unit ≡ unit - 1 = mod-mul-add a unit (unit - 1) (omega arith) in
      let none : unit - 1 - (a * unit + (unit - 1)) % unit ≡ 0 = omega (arith, rest) in
      ap (λ m. int_rem_euclid (neg_ℤ (pos m)) (pos unit)) (one_less a) ∙ ap pos none

  so_many : (n : ℤ) → int_div_euclid (n *ℤ pos unit) (pos unit) ≡ n
  so_many (pos a) = ap pos (mul-div_cancel a positive)
  so_many (negsuc a) = ap (λ m. int_div_euclid (neg_ℤ (pos m)) (pos unit)) (one_less a) ∙ ap negsuc (div-mul-add a unit (unit - 1) (omega arith))

  multiple : (z : ℤ) → is_zero (int_rem_euclid z (pos unit)) ≡ true → z ≡ int_div_euclid z (pos unit) *ℤ pos unit
  multiple (pos a) h =
      let none : a % unit ≡ 0 = eqb-true (a % unit) 0 h in
      let whole = div-add-mod' a unit in
      ap pos (omega (arith, none, whole))
  multiple (negsuc a) h =
      let none : unit - 1 - a % unit ≡ 0 = eqb-true (unit - 1 - a % unit) 0 h in
      let below : a % unit < unit = mod_below a unit positive in
      let whole = div-add-mod' a unit in
      let all : suc (a / unit) * unit ≡ suc a = one_less (a / unit) ∙ omega (arith, none, below, whole) in
      sym (ap (λ m. neg_ℤ (pos m)) all)

-- ---- indexes

small : (n : ℤ) → FitsSigned w64 n → is_index_of_64_bits n ≡ true
small (pos n) h = lt-ltb n (2 ^ 63) (omega (arith, h.sfits))
small (negsuc n) h = lt-ltb n (2 ^ 63) (omega (arith, h.sfits))

fits : (n : ℤ) → is_index_of_64_bits n ≡ true → FitsSigned w64 n
fits (pos n) h = let below : n < 2 ^ 63 = ltb-true n (2 ^ 63) h in record { sfits = omega (arith, below) }
fits (negsuc n) h = let below : n < 2 ^ 63 = ltb-true n (2 ^ 63) h in record { sfits = omega (arith, below) }

when_true : (b : Bool) (n : ℤ) → b ≡ true → is_some (cond b (Some n) None) ≡ true
when_true b n h = grind arith

only_true : (b : Bool) (n : ℤ) → is_some (cond b (Some n) None) ≡ true → b ≡ true
only_true b n h = grind arith

index_test : (d : Decimal) → IsIndex d → is_some (index_in d) ≡ true
unfolding index_in
index_test d h =
    let one : 0 < units_of_one = omega arith in
    let units : d.units ≡ h.0 *ℤ pos units_of_one = ap (λ (e : Decimal). e.units) h.2 in
    when_true (is_zero (int_rem_euclid d.units (pos units_of_one)) && is_index_of_64_bits (int_div_euclid d.units (pos units_of_one))) (int_div_euclid d.units (pos units_of_one))
    (and_from (is_zero (int_rem_euclid d.units (pos units_of_one))) (is_index_of_64_bits (int_div_euclid d.units (pos units_of_one)))
    (ap (λ z. is_zero (int_rem_euclid z (pos units_of_one))) units ∙ ap is_zero (no_rest units_of_one one h.0))
    (ap (λ z. is_index_of_64_bits (int_div_euclid z (pos units_of_one))) units ∙ ap is_index_of_64_bits (so_many units_of_one one h.0) ∙ small h.0 h.1))

-- a whole number below 2^63 is an index
pub whole_index : (n : ℕ) → n < 2 ^ 63 → index_in (record { units = pos n *ℤ pos units_of_one }) ≡ Some (pos n)
unfolding index_in
whole_index n h = by_parts (int_rem_euclid (pos n *ℤ pos units_of_one) (pos units_of_one)) (int_div_euclid (pos n *ℤ pos units_of_one) (pos units_of_one))
    (ap is_zero (no_rest units_of_one (omega arith) (pos n))) (so_many units_of_one (omega arith) (pos n))
  where
    by_parts : (r q : ℤ) → is_zero r ≡ true → q ≡ pos n → cond (is_zero r && is_index_of_64_bits q) (Some q) None ≡ Some (pos n)
    by_parts r q none whole = rw (none, whole, lt-ltb n (2 ^ 63) h) refl

index_from : (d : Decimal) → is_some (index_in d) ≡ true → IsIndex d
unfolding index_in
index_from d h =
    let one : 0 < units_of_one = omega arith in
    let n = int_div_euclid d.units (pos units_of_one) in
    let both = and_parts (is_zero (int_rem_euclid d.units (pos units_of_one))) (is_index_of_64_bits n) (only_true (is_zero (int_rem_euclid d.units (pos units_of_one)) && is_index_of_64_bits n) n h) in
    (n, fits n both.1, ap (λ z. let e : Decimal = record { units = z } in e) (multiple units_of_one one d.units both.0))

-- ---- words

pub bracket_test : (token : ParseToken) → IsBracketWord token → may_stand_alone_in_brackets token ≡ true
bracket_test t.All h = refl
bracket_test (t.Key s) h = refl
bracket_test (t.Keys ss) h = le-leb 2 (length ss) h
bracket_test (t.Union ns) h = le-leb 2 (length ns) h
bracket_test (t.Range first last by) h = refl
bracket_test (t.Number d) h = index_test d h
bracket_test _ h = absurd h

pub bracket_from : (token : ParseToken) → may_stand_alone_in_brackets token ≡ true → IsBracketWord token
bracket_from t.All h = tt
bracket_from (t.Key s) h = tt
bracket_from (t.Keys ss) h = leb-true 2 (length ss) h
bracket_from (t.Union ns) h = leb-true 2 (length ns) h
bracket_from (t.Range first last by) h = tt
bracket_from (t.Number d) h = index_from d h
bracket_from _ h = cc h
