-- The order of fractions is total, and fractions over one power of ten stand as what is above it.
use Rattle.std.specs.Prelude.{◌≡◌, ℕ, zero, suc, ◌*◌, ◌^◌, ◌<◌, ℤ, pos, negsuc, neg_ℤ, ◌*ℤ◌, refl}
use Rattle.std.specs.Cmp.{IsTotalOrder, int_cmp_is, int_ranks, int_cmp_total}
use Rattle.std.specs.Ordering.{int_cmp, MatchOrdering}
use Rattle.std.specs.declared.cmp.Ordering.{Ordering}
use Rattle.std.specs.declared.cmp.Ordering.TheVariants.{Less, Equal, Greater}
use Rattle.std.proofs.Common.{◌<ℤ◌, sym, ap, ap₂, ◌∙◌, lit<, arith}
use Rattle.std.proofs.Math.IntN.{pos-*ℤ-pos, negsuc-*ℤ-pos}
use Rattle.std.proofs.Math.Nat.{mul-lt-mul_of_pos_right, one-le-pow, mul_assoc, mul_comm}
use Rattle.std.proofs.lemmas.Int.{ints}
use Rattle.jsonpath_nodes.specs.compare.Comparisons.{fraction_cmp}

-- the order of whole numbers, each over a power of ten
abbrev pub fraction_order : ℤ × ℕ → ℤ × ℕ → Ordering
fraction_order p q = fraction_cmp p.0 p.1 q.0 q.1

-- ---- times a number above zero

negated : (a j : ℕ) → neg_ℤ (pos a) *ℤ pos j ≡ neg_ℤ (pos (a * j))
negated zero j = let none : 0 * j ≡ 0 = omega arith in rw none refl
negated (suc a) j = negsuc-*ℤ-pos a j

times : (x : ℤ) (i j : ℕ) → (x *ℤ pos i) *ℤ pos j ≡ x *ℤ pos (i * j)
times (pos m) i j = ap (λ z. z *ℤ pos j) (pos-*ℤ-pos m i) ∙ pos-*ℤ-pos (m * i) j ∙ ap pos (mul_assoc m i j) ∙ sym (pos-*ℤ-pos m (i * j))
times (negsuc m) i j = ap (λ z. z *ℤ pos j) (negsuc-*ℤ-pos m i) ∙ negated (suc m * i) j ∙ ap (λ n. neg_ℤ (pos n)) (mul_assoc (suc m) i j) ∙ sym (negsuc-*ℤ-pos m (i * j))

swapped : (x : ℤ) (i j : ℕ) → (x *ℤ pos i) *ℤ pos j ≡ (x *ℤ pos j) *ℤ pos i
swapped x i j = times x i j ∙ ap (λ n. x *ℤ pos n) (mul_comm i j) ∙ sym (times x j i)

grows : (k : ℕ) (x y : ℤ) → 0 < k → x <ℤ y → (x *ℤ pos k) <ℤ (y *ℤ pos k)
grows k (pos m) (pos n) some h =
    let less : m < n = omega (arith, ints, h) in
    let more : m * k < n * k = mul-lt-mul_of_pos_right less some in
    simp pos-*ℤ-pos (omega (arith, ints, more))
grows k (pos m) (negsuc n) some h = absurd (omega (arith, ints))
grows k (negsuc m) (pos n) some h =
    let more : 0 * k < suc m * k = mul-lt-mul_of_pos_right (omega arith) some in
    rw (negsuc-*ℤ-pos, pos-*ℤ-pos) (omega (arith, ints, more))
grows k (negsuc m) (negsuc n) some h =
    let less : suc n < suc m = omega (arith, ints, h) in
    let more : suc n * k < suc m * k = mul-lt-mul_of_pos_right less some in
    simp negsuc-*ℤ-pos (omega (arith, ints, more))

by_order : (k : ℕ) (x y : ℤ) → 0 < k → (o : Ordering) → MatchOrdering o (x <ℤ y) (x ≡ y) (y <ℤ x) → o ≡ int_cmp (x *ℤ pos k) (y *ℤ pos k)
by_order k x y some Less h = int_cmp_is _ _ Less (grows k x y some h)
by_order k x y some Equal h = int_cmp_is _ _ Equal (ap (λ z. z *ℤ pos k) h)
by_order k x y some Greater h = int_cmp_is _ _ Greater (grows k y x some h)

-- numbers stand as they do when both are multiplied
pub scaled : (k : ℕ) (x y : ℤ) → 0 < k → int_cmp x y ≡ int_cmp (x *ℤ pos k) (y *ℤ pos k)
scaled k x y some = by_order k x y some (int_cmp x y) (int_ranks x y)

tens : (n : ℕ) → 0 < 10 ^ n
tens n = let h = one-le-pow n 10 (lit< tt) in omega (arith, h)

-- over one power of ten they stand as what is above it
pub same_tens : (a b : ℤ) (n : ℕ) → int_cmp a b ≡ fraction_cmp a n b n
same_tens a b n = scaled (10 ^ n) a b (tens n)

-- units of 10^-18 among them
pub units_cmp : (a b : ℤ) → int_cmp a b ≡ fraction_cmp a 18 b 18
units_cmp a b = same_tens a b 18

-- ---- the order

-- over the powers of three, each times the other two
module _ (p q r : ℤ × ℕ) where
  abbrev low : ℤ
  low = (p.0 *ℤ pos (10 ^ q.1)) *ℤ pos (10 ^ r.1)

  abbrev middle : ℤ
  middle = (q.0 *ℤ pos (10 ^ p.1)) *ℤ pos (10 ^ r.1)

  abbrev high : ℤ
  high = (r.0 *ℤ pos (10 ^ p.1)) *ℤ pos (10 ^ q.1)

  low_middle : fraction_order p q ≡ int_cmp low middle
  low_middle = scaled (10 ^ r.1) _ _ (tens r.1)

  middle_high : fraction_order q r ≡ int_cmp middle high
  middle_high = scaled (10 ^ p.1) _ _ (tens p.1) ∙ ap₂ int_cmp (swapped q.0 (10 ^ r.1) (10 ^ p.1)) (swapped r.0 (10 ^ q.1) (10 ^ p.1))

  low_high : fraction_order p r ≡ int_cmp low high
  low_high = scaled (10 ^ q.1) _ _ (tens q.1) ∙ ap (λ z. int_cmp z high) (swapped p.0 (10 ^ r.1) (10 ^ q.1))

pub fraction_total : IsTotalOrder fraction_order
fraction_total = record {
  antisymm = λ p q. int_cmp_total.antisymm (p.0 *ℤ pos (10 ^ q.1)) (q.0 *ℤ pos (10 ^ p.1));
  trans = λ p q r h k. low_high p q r ∙ int_cmp_total.trans (low p q r) (middle p q r) (high p q r) (sym (low_middle p q r) ∙ h) (sym (middle_high p q r) ∙ k);
  congr = λ p q r h. low_high p q r ∙ int_cmp_total.congr (low p q r) (middle p q r) (high p q r) (sym (low_middle p q r) ∙ h) ∙ sym (middle_high p q r);
}
