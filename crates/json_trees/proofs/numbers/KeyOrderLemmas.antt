-- Keys stand in the order of their numbers.
use Rattle.std.proofs.Common.{◌≡◌, ◌≢◌, ℕ, zero, suc, ◌+◌, ◌-◌, ◌*◌, ◌^◌, ◌<◌, ◌≤◌, ℤ, pos, neg_ℤ, ◌<ℤ◌, inl, inr, List, [], ◌∷◌, ◌++◌, length, get_or, drop, if◌then◌else◌, Bool, true, false, sym, ap, ap₂, subst, ◌∙◌, refl, lit<, arith}
use Rattle.std.specs.Prelude.{◌+ℤ◌}
use Rattle.std.specs.Char.{digit_value}
use Rattle.std.specs.Int.{IsInRange}
use Rattle.std.specs.Cmp.{nat_cmp_is, int_cmp_is, int_ranks}
use Rattle.std.specs.Cmp.Lexicographic.{slice_cmp}
use Rattle.std.specs.declared.cmp.Ordering.{Ordering}
use Rattle.std.specs.declared.cmp.Ordering.TheVariants.{Less, Equal, Greater}
use Rattle.std.specs.Ordering.{nat_cmp, int_cmp, ordering_then, MatchOrdering}
use Rattle.std.specs.Str.Parse.{AllDigits, digits_value, digits_value_after}
use Rattle.std.proofs.Math.Nat.{pow-succ', mul_assoc, add-mul, mul-lt-mul_of_pos_right, mul-le-mul_right, pow-le-pow_right, one-le-pow, one-le-mul}
use Rattle.std.proofs.lemmas.Cmp.{ranked}
use Rattle.std.proofs.lemmas.Int.{ints}
use Rattle.std.proofs.lemmas.Int.Digits.{digits_value-lt}
use Rattle.std.proofs.lemmas.Nat.{pow-add}
use Rattle.std.proofs.lemmas.Str.{digit_value_digit}
use Rattle.std.proofs.lemmas.Str.Parse.{digit_from_value}
use Rattle.fast_float.specs.Text.{Parts, scan, digits_of, tens_up, tens_down, with_sign}
use Rattle.fast_float.proofs.Reading.{scan_numeral-AllDigits}
use Rattle.json_trees.specs.NumberKey.{zeros, turned, IsPointed, IsPlaced, IsKey, IsKeyAs, IsKeyOf, key_cmp, is_negative, number_cmp, text_cmp}
use Rattle.json_trees.specs.declared.numbers.number_key.NumberKey.{NumberKey}
use Rattle.json_trees.proofs.numbers.KeyLawLemmas.{AreDigits, digit_some, nothing_written, not_tens, all_digits, scaled, exponent_is}

-- what an order says of two numbers
abbrev Ranks : Ordering → ℕ → ℕ → Type 0
Ranks o x y = MatchOrdering o (x < y) (x ≡ y) (y < x)

abbrev IntRanks : Ordering → ℤ → ℤ → Type 0
IntRanks o x y = MatchOrdering o (x <ℤ y) (x ≡ y) (y <ℤ x)

-- ---- the value of digits

ten_some : (n : ℕ) → 0 < 10 ^ n
ten_some n = one-le-pow n 10 (lit< tt)

one_more : (x y p q r m : ℕ) → x ≡ p + r → y ≡ q + r → p ≡ m + q → x ≡ m + y
one_more x y p q r m is is' sum = omega arith

-- the digits behind a number
value_behind : (n : ℕ) (ds : List ℕ) → digits_value_after 10 n ds ≡ n * 10 ^ length ds + digits_value 10 ds
value_behind n [] = let none : 10 ^ 0 ≡ 1 = refl in omega arith
value_behind n (d ∷ ds) =
    let t = 10 ^ length ds in
    let v = digit_value d in
    let moved : n * 10 * t ≡ n * 10 ^ suc (length ds) = mul_assoc n 10 t ∙ ap (λ m. n * m) (sym (pow-succ' 10 (length ds))) in
    let bare : v ≡ 0 + v = omega arith in
    one_more _ _ _ _ _ _ (value_behind (n * 10 + v) ds) (value_behind (0 + v) ds) (add-mul (n * 10) v t ∙ ap₂ (λ (a b : ℕ). a + b) moved (ap (λ m. m * t) bare))

-- the first digit, and the rest
head_value : (d : ℕ) (ds : List ℕ) (a : ℕ) → digits_value 10 (d ∷ ds) * 10 ^ a ≡ digit_value d * 10 ^ (length ds + a) + digits_value 10 ds * 10 ^ a
head_value d ds a =
    let t = 10 ^ length ds in
    let v = digit_value d in
    let bare : 0 + v ≡ v = omega arith in
    let moved : (0 + v) * t * 10 ^ a ≡ v * 10 ^ (length ds + a) = mul_assoc (0 + v) t (10 ^ a) ∙ ap₂ (λ (m n : ℕ). m * n) bare (sym (pow-add 10 (length ds) a)) in
    ap (λ m. m * 10 ^ a) (value_behind (0 + v) ds) ∙ add-mul ((0 + v) * t) (digits_value 10 ds) (10 ^ a) ∙ ap (λ m. m + digits_value 10 ds * 10 ^ a) moved

rest_small : (ds : List ℕ) (a : ℕ) → AllDigits 10 ds → digits_value 10 ds * 10 ^ a < 10 ^ (length ds + a)
rest_small ds a all = subst (λ n. digits_value 10 ds * 10 ^ a < n) (sym (pow-add 10 (length ds) a)) (mul-lt-mul_of_pos_right (digits_value-lt 10 ds all) (ten_some a))

-- digits that end in no zero
abbrev IsTrimmed : List ℕ → Type 0
IsTrimmed ds = 0 < length ds → get_or ds (length ds - 1) 0 ≢ 48

trimmed_tail : (d : ℕ) (ds : List ℕ) → IsTrimmed (d ∷ ds) → IsTrimmed ds
trimmed_tail d [] h = λ some. absurd (omega arith)
trimmed_tail d (e ∷ es) h = λ some is.
    let place : length (d ∷ e ∷ es) - 1 ≡ suc (length (e ∷ es) - 1) = omega arith in
    h (omega arith) (ap (λ n. get_or (d ∷ e ∷ es) n 0) place ∙ is)

some_value : (ds : List ℕ) → AllDigits 10 ds → 0 < length ds → IsTrimmed ds → 0 < digits_value 10 ds
some_value ds all some trimmed = by_value (digits_value 10 ds) (λ m. not_tens ds m all some (trimmed some))
  where
    by_value : (v : ℕ) → ((m : ℕ) → v ≡ m * 10 → ⊥) → 0 < v
    by_value zero none = absurd (none 0 (omega arith))
    by_value (suc v) none = omega arith

some_times : (ds : List ℕ) (a : ℕ) → AllDigits 10 ds → 0 < length ds → IsTrimmed ds → 0 < digits_value 10 ds * 10 ^ a
some_times ds a all some trimmed = one-le-mul (some_value ds all some trimmed) (ten_some a)

-- ---- digits behind a point, compared from the first one on

lower_head : (v w t r s x y : ℕ) → x ≡ v * t + r → y ≡ w * t + s → v < w → r < t → x < y
lower_head v w t r s x y is is' less small =
    let next : v + 1 ≤ w = omega (arith, less) in
    let more : (v + 1) * t ≤ w * t = mul-le-mul_right t next in
    let parts = add-mul v 1 t in
    omega (arith, is, is', more, parts, small)

same_head : (o : Ordering) (r s x y c : ℕ) → x ≡ c + r → y ≡ c + s → Ranks o r s → Ranks o x y
same_head Less r s x y c is is' h = omega (arith, is, is', h)
same_head Equal r s x y c is is' h = omega (arith, is, is', h)
same_head Greater r s x y c is is' h = omega (arith, is, is', h)

digit_order : (d e : ℕ) → digit_value d < 10 → digit_value e < 10 → d < e → digit_value d < digit_value e
digit_order d e h i less =
    let k = digit_value_digit d (digit_from_value d h) in
    let l = digit_value_digit e (digit_from_value e i) in
    omega (arith, k, l, less)

by_digits : (ds es : List ℕ) (a b : ℕ) → AllDigits 10 ds → AllDigits 10 es → IsTrimmed ds → IsTrimmed es → length ds + a ≡ length es + b
    → Ranks (slice_cmp nat_cmp ds es) (digits_value 10 ds * 10 ^ a) (digits_value 10 es * 10 ^ b)
by_digits [] [] a b h i trimmed trimmed' same = omega arith
by_digits [] (e ∷ es) a b h i trimmed trimmed' same = let some = some_times (e ∷ es) b i (omega arith) trimmed' in omega (arith, some)
by_digits (d ∷ ds) [] a b h i trimmed trimmed' same = let some = some_times (d ∷ ds) a h (omega arith) trimmed in omega (arith, some)
by_digits (d ∷ ds) (e ∷ es) a b h i trimmed trimmed' same =
    by_head (by_digits ds es a b h.1 i.1 (trimmed_tail d ds trimmed) (trimmed_tail e es trimmed') far) (nat_cmp d e) (ranked d e (nat_cmp d e) refl)
  where
    far : length ds + a ≡ length es + b
    far = omega (arith, same)

    left : digits_value 10 (d ∷ ds) * 10 ^ a ≡ digit_value d * 10 ^ (length ds + a) + digits_value 10 ds * 10 ^ a
    left = head_value d ds a

    right : digits_value 10 (e ∷ es) * 10 ^ b ≡ digit_value e * 10 ^ (length ds + a) + digits_value 10 es * 10 ^ b
    right = head_value e es b ∙ ap (λ n. digit_value e * 10 ^ n + digits_value 10 es * 10 ^ b) (sym far)

    small : digits_value 10 ds * 10 ^ a < 10 ^ (length ds + a)
    small = rest_small ds a h.1

    small' : digits_value 10 es * 10 ^ b < 10 ^ (length ds + a)
    small' = subst (λ n. digits_value 10 es * 10 ^ b < 10 ^ n) (sym far) (rest_small es b i.1)

    by_head : Ranks (slice_cmp nat_cmp ds es) (digits_value 10 ds * 10 ^ a) (digits_value 10 es * 10 ^ b)
        → (o : Ordering) → Ranks o d e → Ranks (ordering_then o (slice_cmp nat_cmp ds es)) (digits_value 10 (d ∷ ds) * 10 ^ a) (digits_value 10 (e ∷ es) * 10 ^ b)
    by_head rest Less less = lower_head (digit_value d) (digit_value e) (10 ^ (length ds + a)) _ _ _ _ left right (digit_order d e h.0 i.0 less) small
    by_head rest Equal is = same_head (slice_cmp nat_cmp ds es) _ _ _ _ (digit_value d * 10 ^ (length ds + a)) left (right ∙ ap (λ n. digit_value n * 10 ^ (length ds + a) + digits_value 10 es * 10 ^ b) (sym is)) rest
    by_head rest Greater more = lower_head (digit_value e) (digit_value d) (10 ^ (length ds + a)) _ _ _ _ right left (digit_order e d i.0 h.0 more) small'

-- ---- numbers of one sign

-- what begins further left
further : (ds es : List ℕ) (a b : ℕ) → AllDigits 10 ds → AllDigits 10 es → 0 < length es → get_or es 0 0 ≢ 48 → length ds + a < length es + b
    → digits_value 10 ds * 10 ^ a < digits_value 10 es * 10 ^ b
further ds [] a b h i some first less = absurd (omega (arith, some))
further ds (e ∷ es) a b h i some first less =
    let small = rest_small ds a h in
    let wide : 10 ^ (length ds + a) ≤ 10 ^ (length es + b) = pow-le-pow_right (lit< tt) (omega (arith, less)) in
    let parts = head_value e es b in
    let digit : 1 ≤ digit_value e = digit_some e i.0 first in
    let more : 1 * 10 ^ (length es + b) ≤ digit_value e * 10 ^ (length es + b) = mul-le-mul_right (10 ^ (length es + b)) digit in
    omega (arith, small, wide, parts, more)

beside_less : (e f : ℤ) (n m a b up up' down down' : ℕ) → e +ℤ pos down ≡ pos (n + a + up) → f +ℤ pos down' ≡ pos (m + b + up') → e <ℤ f → n + (a + (up + down')) < m + (b + (up' + down))
beside_less e f n m a b up up' down down' h i less = omega (arith, ints, h, i, less)

beside_same : (e f : ℤ) (n m a b up up' down down' : ℕ) → e +ℤ pos down ≡ pos (n + a + up) → f +ℤ pos down' ≡ pos (m + b + up') → e ≡ f → n + (a + (up + down')) ≡ m + (b + (up' + down))
beside_same e f n m a b up up' down down' h i is = omega (arith, ints, h, i, is)

module _ (p q : Parts) (ds es : List ℕ) (e f : ℤ) (wp : AreDigits p) (wq : AreDigits q) (at : IsPointed p ds e) (bt : IsPointed q es f) where
  left : digits_of p * 10 ^ (tens_up p + tens_down q) ≡ digits_value 10 ds * 10 ^ (at.trail + (tens_up p + tens_down q))
  left = scaled p ds e wp at (tens_up p + tens_down q)

  right : digits_of q * 10 ^ (tens_up q + tens_down p) ≡ digits_value 10 es * 10 ^ (bt.trail + (tens_up q + tens_down p))
  right = scaled q es f wq bt (tens_up q + tens_down p)

  moved : (o : Ordering) → Ranks o (digits_value 10 ds * 10 ^ (at.trail + (tens_up p + tens_down q))) (digits_value 10 es * 10 ^ (bt.trail + (tens_up q + tens_down p)))
      → Ranks o (digits_of p * 10 ^ (tens_up p + tens_down q)) (digits_of q * 10 ^ (tens_up q + tens_down p))
  moved o h = subst (λ m. Ranks o m (digits_of q * 10 ^ (tens_up q + tens_down p))) (sym left) (subst (λ m. Ranks o (digits_value 10 ds * 10 ^ (at.trail + (tens_up p + tens_down q))) m) (sym right) h)

  by_exponent : (o : Ordering) → IntRanks o e f → Ranks (ordering_then o (slice_cmp nat_cmp ds es)) (digits_of p * 10 ^ (tens_up p + tens_down q)) (digits_of q * 10 ^ (tens_up q + tens_down p))
  by_exponent Less less =
      moved Less (further ds es _ _ (all_digits p ds e wp at) (all_digits q es f wq bt) bt.some bt.first
      (beside_less e f (length ds) (length es) at.trail bt.trail (tens_up p) (tens_up q) (tens_down p) (tens_down q) (exponent_is p ds e wp at) (exponent_is q es f wq bt) less))
  by_exponent Equal is =
      moved (slice_cmp nat_cmp ds es) (by_digits ds es _ _ (all_digits p ds e wp at) (all_digits q es f wq bt) (λ some. at.last) (λ some. bt.last)
      (beside_same e f (length ds) (length es) at.trail bt.trail (tens_up p) (tens_up q) (tens_down p) (tens_down q) (exponent_is p ds e wp at) (exponent_is q es f wq bt) is))
  by_exponent Greater more =
      moved Greater (further es ds _ _ (all_digits q es f wq bt) (all_digits p ds e wp at) at.some at.first
      (beside_less f e (length es) (length ds) bt.trail at.trail (tens_up q) (tens_up p) (tens_down q) (tens_down p) (exponent_is q es f wq bt) (exponent_is p ds e wp at) more))

  sizes : Ranks (ordering_then (int_cmp e f) (slice_cmp nat_cmp ds es)) (digits_of p * 10 ^ (tens_up p + tens_down q)) (digits_of q * 10 ^ (tens_up q + tens_down p))
  sizes = by_exponent (int_cmp e f) (int_ranks e f)

some_size : (p : Parts) (ds : List ℕ) (e : ℤ) (n : ℕ) → AreDigits p → IsPointed p ds e → 0 < digits_of p * 10 ^ n
some_size p ds e n wp at = subst (λ m. 0 < m) (sym (scaled p ds e wp at n)) (some_times ds (at.trail + n) (all_digits p ds e wp at) at.some (λ some. at.last))

no_size : (p : Parts) (zero_count n : ℕ) → p.whole ++ p.fraction ≡ zeros zero_count → digits_of p * 10 ^ n ≡ 0
no_size p zero_count n none = let nothing : 0 * 10 ^ n ≡ 0 = omega arith in ap (λ v. v * 10 ^ n) (nothing_written p zero_count none) ∙ nothing

-- ---- signs

turned_back : (ds es : List ℕ) → AllDigits 10 ds → AllDigits 10 es → slice_cmp nat_cmp (turned ds) (turned es) ≡ slice_cmp nat_cmp es ds
turned_back [] [] h i = refl
turned_back [] (e ∷ es) h i =
    let range = digit_from_value e i.0 in
    ap (λ o. ordering_then o (slice_cmp nat_cmp [] (turned es))) (sym (nat_cmp_is 58 (105 - e) Greater (omega (arith, range))))
turned_back (d ∷ ds) [] h i =
    let range = digit_from_value d h.0 in
    ap (λ o. ordering_then o (slice_cmp nat_cmp (turned ds) [])) (sym (nat_cmp_is (105 - d) 58 Less (omega (arith, range))))
turned_back (d ∷ ds) (e ∷ es) h i =
    ap₂ ordering_then (sym (nat_cmp_is (105 - d) (105 - e) (nat_cmp e d) (turned_digit (nat_cmp e d) d e (digit_from_value d h.0) (digit_from_value e i.0) (ranked e d (nat_cmp e d) refl)))) (turned_back ds es h.1 i.1)
  where
    turned_digit : (o : Ordering) (d e : ℕ) → IsInRange 48 57 d → IsInRange 48 57 e → Ranks o e d → Ranks o (105 - d) (105 - e)
    turned_digit Less d e h i r = omega (arith, h, i, r)
    turned_digit Equal d e h i r = omega (arith, h, i, r)
    turned_digit Greater d e h i r = omega (arith, h, i, r)

negated : (o : Ordering) (e f : ℤ) → IntRanks o f e → IntRanks o (neg_ℤ e) (neg_ℤ f)
negated Less e f h = omega (arith, ints, h)
negated Equal e f h = ap neg_ℤ (sym h)
negated Greater e f h = omega (arith, ints, h)

turned_exponent : (e f : ℤ) → int_cmp (neg_ℤ e) (neg_ℤ f) ≡ int_cmp f e
turned_exponent e f = sym (int_cmp_is (neg_ℤ e) (neg_ℤ f) (int_cmp f e) (negated (int_cmp f e) e f (int_ranks f e)))

above_zero : (o : Ordering) (x y : ℕ) → Ranks o x y → IntRanks o (pos x) (pos y)
above_zero Less x y h = omega (arith, ints, h)
above_zero Equal x y h = ap pos h
above_zero Greater x y h = omega (arith, ints, h)

below_zero : (o : Ordering) (x y : ℕ) → Ranks o y x → IntRanks o (with_sign true x) (with_sign true y)
below_zero Less x y h = omega (arith, ints, h)
below_zero Equal x y h = ap (λ n. neg_ℤ (pos n)) (sym h)
below_zero Greater x y h = omega (arith, ints, h)

zero_is : (m : Bool) (x : ℕ) → x ≡ 0 → with_sign m x ≡ pos 0
zero_is true x e = omega (arith, ints, e)
zero_is false x e = ap pos e

-- ---- keys

abbrev HasFields : NumberKey → ℤ → ℤ → List ℕ → Type 0
HasFields k side exponent digits = (k.side ≡ side) × (k.exponent ≡ exponent) × (k.digits.items ≡ digits)

by_fields : (k l : NumberKey) (s t e f : ℤ) (ds es : List ℕ) (x y : ℤ) → HasFields k s e ds → HasFields l t f es
    → IntRanks (ordering_then (int_cmp s t) (ordering_then (int_cmp e f) (slice_cmp nat_cmp ds es))) x y → IntRanks (key_cmp k l) x y
by_fields k l s t e f ds es x y h i ranks =
    subst (λ o. IntRanks o x y) (sym (ap₂ ordering_then (ap₂ int_cmp h.0 i.0) (ap₂ ordering_then (ap₂ int_cmp h.1 i.1) (ap₂ (slice_cmp nat_cmp) h.2 i.2)))) ranks

-- zero and another number
zero_before : (m n : Bool) (k l : NumberKey) (x y : ℕ) (es : List ℕ) (f : ℤ) → x ≡ 0 → 0 < y → HasFields k (pos 0) (pos 0) [] → IsPlaced n es f l → IntRanks (key_cmp k l) (with_sign m x) (with_sign n y)
zero_before m true k l x y es f none some h i =
    let is = zero_is m x none in by_fields k l _ _ _ _ _ _ (with_sign m x) (with_sign true y) h i (omega (arith, ints, is, some))
zero_before m false k l x y es f none some h i =
    let is = zero_is m x none in by_fields k l _ _ _ _ _ _ (with_sign m x) (with_sign false y) h i (omega (arith, ints, is, some))

zero_after : (m n : Bool) (k l : NumberKey) (x y : ℕ) (ds : List ℕ) (e : ℤ) → 0 < x → y ≡ 0 → IsPlaced m ds e k → HasFields l (pos 0) (pos 0) [] → IntRanks (key_cmp k l) (with_sign m x) (with_sign n y)
zero_after true n k l x y ds e some none h i =
    let is = zero_is n y none in by_fields k l _ _ _ _ _ _ (with_sign true x) (with_sign n y) h i (omega (arith, ints, is, some))
zero_after false n k l x y ds e some none h i =
    let is = zero_is n y none in by_fields k l _ _ _ _ _ _ (with_sign false x) (with_sign n y) h i (omega (arith, ints, is, some))

-- two numbers that are no zeros
both_some : (m n : Bool) (k l : NumberKey) (x y : ℕ) (ds es : List ℕ) (e f : ℤ) → 0 < x → 0 < y → AllDigits 10 ds → AllDigits 10 es
    → Ranks (ordering_then (int_cmp e f) (slice_cmp nat_cmp ds es)) x y → Ranks (ordering_then (int_cmp f e) (slice_cmp nat_cmp es ds)) y x → IsPlaced m ds e k → IsPlaced n es f l
    → IntRanks (key_cmp k l) (with_sign m x) (with_sign n y)
both_some true true k l x y ds es e f some some' hd he sizes back h i =
    by_fields k l _ _ _ _ _ _ (with_sign true x) (with_sign true y) h i
    (subst (λ o. IntRanks o (with_sign true x) (with_sign true y)) (sym (ap₂ ordering_then (turned_exponent e f) (turned_back ds es hd he))) (below_zero (ordering_then (int_cmp f e) (slice_cmp nat_cmp es ds)) x y back))
both_some true false k l x y ds es e f some some' hd he sizes back h i = by_fields k l _ _ _ _ _ _ (with_sign true x) (with_sign false y) h i (omega (arith, ints, some, some'))
both_some false true k l x y ds es e f some some' hd he sizes back h i = by_fields k l _ _ _ _ _ _ (with_sign false x) (with_sign true y) h i (omega (arith, ints, some, some'))
both_some false false k l x y ds es e f some some' hd he sizes back h i =
    by_fields k l _ _ _ _ _ _ (with_sign false x) (with_sign false y) h i (above_zero (ordering_then (int_cmp e f) (slice_cmp nat_cmp ds es)) x y sizes)

ranked_keys : (m n : Bool) (p q : Parts) (k l : NumberKey) → AreDigits p → AreDigits q → IsKey m p k → IsKey n q l
    → IntRanks (key_cmp k l) (with_sign m (digits_of p * 10 ^ (tens_up p + tens_down q))) (with_sign n (digits_of q * 10 ^ (tens_up q + tens_down p)))
ranked_keys m n p q k l wp wq (inl h) (inl i) =
    by_fields k l _ _ _ _ _ _ _ _ (h.2, h.3, h.4) (i.2, i.3, i.4) (zero_is m _ (no_size p h.0 _ h.1) ∙ sym (zero_is n _ (no_size q i.0 _ i.1)))
ranked_keys m n p q k l wp wq (inl h) (inr i) = zero_before m n k l _ _ i.0 i.1 (no_size p h.0 _ h.1) (some_size q i.0 i.1 _ wq i.2) (h.2, h.3, h.4) i.3
ranked_keys m n p q k l wp wq (inr h) (inl i) = zero_after m n k l _ _ h.0 h.1 (some_size p h.0 h.1 _ wp h.2) (no_size q i.0 _ i.1) h.3 (i.2, i.3, i.4)
ranked_keys m n p q k l wp wq (inr h) (inr i) =
    both_some m n k l _ _ h.0 i.0 h.1 i.1 (some_size p h.0 h.1 _ wp h.2) (some_size q i.0 i.1 _ wq i.2) (all_digits p h.0 h.1 wp h.2) (all_digits q i.0 i.1 wq i.2)
    (sizes p q h.0 i.0 h.1 i.1 wp wq h.2 i.2) (sizes q p i.0 h.0 i.1 h.1 wq wp i.2 h.2) h.3 i.3

by_parts : (m n : Bool) (p q : Parts) (k l : NumberKey) → AreDigits p → AreDigits q → IsKey m p k → IsKey n q l → key_cmp k l ≡ number_cmp m p n q
by_parts m n p q k l wp wq h i = int_cmp_is _ _ (key_cmp k l) (ranked_keys m n p q k l wp wq h i)

key_of_text : (b : Bool) (text : List ℕ) (k : NumberKey) → IsKeyAs b text k → IsKey b (if b then scan (drop 1 text) else scan text) k
key_of_text true text k h = h
key_of_text false text k h = h

are_digits : (b : Bool) (text : List ℕ) → AreDigits (if b then scan (drop 1 text) else scan text)
are_digits true text = scan_numeral-AllDigits (drop 1 text)
are_digits false text = scan_numeral-AllDigits text

pub by_texts : (s t : List ℕ) (k l : NumberKey) → IsKeyOf s k → IsKeyOf t l → key_cmp k l ≡ text_cmp s t
by_texts s t k l h i = by_parts _ _ _ _ k l (are_digits (is_negative s) s) (are_digits (is_negative t) t) (key_of_text (is_negative s) s k h) (key_of_text (is_negative t) t l i)
