-- One number has one key.
use Rattle.std.proofs.Common.{◌≡◌, ◌≢◌, ℕ, zero, suc, ◌+◌, ◌-◌, ◌*◌, ◌^◌, ◌<◌, ◌≤◌, ℤ, pos, neg_ℤ, ◌⊎◌, inl, inr, List, [], ◌∷◌, ◌++◌, length, get_or, Bool, true, false, cond, refl, sym, ap, ap₂, subst, ◌∙◌, arith, ne_eqb}
use Rattle.std.specs.Prelude.{◌-ℤ◌, ◌+ℤ◌}
use Rattle.std.specs.Char.{digit_value}
use Rattle.std.specs.Str.Parse.{AllDigits, digits_value, signed_digits_value}
use Rattle.std.proofs.Math.Nat.{pow-suc, pow-succ', mul_assoc}
use Rattle.std.proofs.lemmas.Int.{ints}
use Rattle.std.proofs.lemmas.Nat.{pow-add}
use Rattle.std.proofs.lemmas.Int.Digits.{digits_value_push}
use Rattle.std.proofs.lemmas.List.{append-nil, append_assoc, length-append}
use Rattle.std.proofs.lemmas.Str.{digit_value_digit}
use Rattle.std.proofs.lemmas.Str.Parse.{digit_from_value}
use Rattle.fast_float.specs.Text.{Parts, digits_of, tens_up, tens_down, IsWellFormed}
use Rattle.json_trees.specs.NumberKey.{zeros, turned, IsPointed, IsPlaced, IsSameNumber, IsSameKey, OneKey}
use Rattle.json_trees.specs.declared.numbers.number_key.NumberKey.{NumberKey}
use Rattle.json_trees.proofs.numbers.KeyLemmas.{first_is}

-- ---- digits and zeros

value_front : (n : ℕ) (xs : List ℕ) → digits_value 10 (zeros n ++ xs) ≡ digits_value 10 xs
value_front zero xs = refl
value_front (suc n) xs = value_front n xs

times_ten : (v n : ℕ) → v * 10 ^ suc n ≡ v * 10 ^ n * 10
times_ten v n = ap (λ m. v * m) (pow-suc 10 n) ∙ sym (mul_assoc v (10 ^ n) 10)

value_end : (ds : List ℕ) (n : ℕ) → digits_value 10 (ds ++ zeros n) ≡ digits_value 10 ds * 10 ^ n
value_end ds zero = let one : digits_value 10 ds ≡ digits_value 10 ds * 1 = omega arith in ap (digits_value 10) (append-nil ds) ∙ one
value_end ds (suc n) =
    let pushed : digits_value 10 (ds ++ 48 ∷ []) ≡ digits_value 10 ds * 10 = let e = digits_value_push 10 ds 48 in omega (arith, e) in
    let moved : digits_value 10 ds * 10 * 10 ^ n ≡ digits_value 10 ds * 10 ^ suc n = mul_assoc (digits_value 10 ds) 10 (10 ^ n) ∙ ap (λ m. digits_value 10 ds * m) (sym (pow-succ' 10 n)) in
    ap (digits_value 10) (sym (append_assoc ds (48 ∷ []) (zeros n))) ∙ value_end (ds ++ 48 ∷ []) n ∙ ap (λ v. v * 10 ^ n) pushed ∙ moved

-- ---- the last digit

-- nothing, or a last digit behind the others
abbrev EndsIn : List ℕ → Type 0
EndsIn ds = (ds ≡ []) ⊎ ((ys : List ℕ) × (c : ℕ) × (ds ≡ ys ++ c ∷ []))

ends_more : (d : ℕ) (ds : List ℕ) → EndsIn ds → EndsIn (d ∷ ds)
ends_more d ds (inl e) = inr ([], d, ap (λ (xs : List ℕ). d ∷ xs) e)
ends_more d ds (inr e) = inr (d ∷ e.0, e.1, ap (λ (xs : List ℕ). d ∷ xs) e.2)

ends_in : (ds : List ℕ) → EndsIn ds
ends_in [] = inl refl
ends_in (d ∷ ds) = ends_more d ds (ends_in ds)

digits_split : (ys zs : List ℕ) → AllDigits 10 (ys ++ zs) → AllDigits 10 ys × AllDigits 10 zs
digits_split [] zs h = (tt, h)
digits_split (y ∷ ys) zs h = let rest = digits_split ys zs h.1 in ((h.0, rest.0), rest.1)

last_is : (ys : List ℕ) (c : ℕ) → get_or (ys ++ c ∷ []) (length (ys ++ c ∷ []) - 1) 0 ≡ c
last_is [] c = refl
last_is (y ∷ ys) c =
    let long : length (ys ++ c ∷ []) ≡ length ys + 1 = length-append ys (c ∷ []) in
    let place : suc (length (ys ++ c ∷ [])) - 1 ≡ suc (length (ys ++ c ∷ []) - 1) = omega (arith, long) in
    ap (λ n. get_or (y ∷ (ys ++ c ∷ [])) n 0) place ∙ last_is ys c

-- a digit that is no zero has a value
pub digit_some : (c : ℕ) → digit_value c < 10 → c ≢ 48 → 0 < digit_value c
digit_some c small other = by_value (digit_value c) refl
  where
    by_value : (n : ℕ) → digit_value c ≡ n → 0 < digit_value c
    by_value zero e = absurd (other (let k = digit_value_digit c (digit_from_value c small) in omega (arith, k, e)))
    by_value (suc n) e = omega (arith, e)

same_digit : (c d : ℕ) → digit_value c < 10 → digit_value d < 10 → digit_value c ≡ digit_value d → c ≡ d
same_digit c d h i e =
    let k = digit_value_digit c (digit_from_value c h) in
    let l = digit_value_digit d (digit_from_value d i) in
    omega (arith, k, l, e)

abbrev IsWhole : List ℕ → Type 0
IsWhole ds = AllDigits 10 ds × (0 < length ds → get_or ds 0 0 ≢ 48)

-- the digits before the last begin as all do
front_whole : (ys : List ℕ) (c : ℕ) → IsWhole (ys ++ c ∷ []) → IsWhole ys
front_whole ys c h =
    ((digits_split ys (c ∷ []) h.0).0, λ some is. h.1 (let e = length-append ys (c ∷ []) in omega (arith, e)) (first_is ys (c ∷ []) some ∙ is))

-- what has no value has no digit
no_digits : (es zs : List ℕ) (d : ℕ) → es ≡ zs ++ d ∷ [] → IsWhole es → digits_value 10 es ≡ 0 → (digits_value 10 zs ≡ 0 → zs ≡ []) → ⊥
no_digits es zs d is h none front =
    let pushed = ap (digits_value 10) is ∙ digits_value_push 10 zs d in
    let alone : es ≡ d ∷ [] = is ∙ ap (λ (xs : List ℕ). xs ++ d ∷ []) (front (omega (arith, pushed, none))) in
    let digit : digit_value d < 10 = (digits_split zs (d ∷ []) (subst (AllDigits 10) is h.0)).1.0 in
    let some : 0 < length es = let long = ap (λ (xs : List ℕ). length xs) alone in omega (arith, long) in
    let value : digit_value d ≡ 0 = omega (arith, pushed, none) in
    let zero_digit : d ≡ 48 = let k = digit_value_digit d (digit_from_value d digit) in omega (arith, k, value) in
    h.1 some (ap (λ (xs : List ℕ). get_or xs 0 0) alone ∙ zero_digit)

nothing_whole : IsWhole []
nothing_whole = (tt, λ some is. absurd (omega (arith, some)))

same_ends : (n : ℕ) → ((ds es : List ℕ) → length ds + length es ≤ n → IsWhole ds → IsWhole es → digits_value 10 ds ≡ digits_value 10 es → ds ≡ es)
    → (ds es : List ℕ) → EndsIn ds → EndsIn es → length ds + length es ≤ suc n → IsWhole ds → IsWhole es → digits_value 10 ds ≡ digits_value 10 es → ds ≡ es
same_ends n again ds es (inl e) (inl f) within h i v = e ∙ sym f
same_ends n again ds es (inl e) (inr f) within h i v =
    let none : digits_value 10 es ≡ 0 = sym v ∙ ap (digits_value 10) e in
    let long = ap (λ (xs : List ℕ). length xs) f.2 in
    let more = length-append f.0 (f.1 ∷ []) in
    absurd (no_digits es f.0 f.1 f.2 i none (λ zero_front. sym (again [] f.0 (omega (arith, within, long, more)) nothing_whole (front_whole f.0 f.1 (subst (λ (xs : List ℕ). IsWhole xs) f.2 i)) (sym zero_front))))
same_ends n again ds es (inr e) (inl f) within h i v =
    let none : digits_value 10 ds ≡ 0 = v ∙ ap (digits_value 10) f in
    let long = ap (λ (xs : List ℕ). length xs) e.2 in
    let more = length-append e.0 (e.1 ∷ []) in
    absurd (no_digits ds e.0 e.1 e.2 h none (λ zero_front. sym (again [] e.0 (omega (arith, within, long, more)) nothing_whole (front_whole e.0 e.1 (subst (λ (xs : List ℕ). IsWhole xs) e.2 h)) (sym zero_front))))
same_ends n again ds es (inr e) (inr f) within h i v =
    let left = ap (digits_value 10) e.2 ∙ digits_value_push 10 e.0 e.1 in
    let right = ap (digits_value 10) f.2 ∙ digits_value_push 10 f.0 f.1 in
    let c : digit_value e.1 < 10 = (digits_split e.0 (e.1 ∷ []) (subst (AllDigits 10) e.2 h.0)).1.0 in
    let d : digit_value f.1 < 10 = (digits_split f.0 (f.1 ∷ []) (subst (AllDigits 10) f.2 i.0)).1.0 in
    let long = ap (λ (xs : List ℕ). length xs) e.2 in
    let more = length-append e.0 (e.1 ∷ []) in
    let long' = ap (λ (xs : List ℕ). length xs) f.2 in
    let more' = length-append f.0 (f.1 ∷ []) in
    let fronts : digits_value 10 e.0 ≡ digits_value 10 f.0 = omega (arith, left, right, v, c, d) in
    let lasts : digit_value e.1 ≡ digit_value f.1 = omega (arith, left, right, v, c, d) in
    let front = again e.0 f.0 (omega (arith, within, long, more, long', more')) (front_whole e.0 e.1 (subst (λ (xs : List ℕ). IsWhole xs) e.2 h)) (front_whole f.0 f.1 (subst (λ (xs : List ℕ). IsWhole xs) f.2 i)) fronts in
    e.2 ∙ ap₂ (λ (xs : List ℕ) (x : ℕ). xs ++ x ∷ []) front (same_digit e.1 f.1 c d lasts) ∙ sym f.2

same_digits : (n : ℕ) (ds es : List ℕ) → length ds + length es ≤ n → IsWhole ds → IsWhole es → digits_value 10 ds ≡ digits_value 10 es → ds ≡ es
same_digits zero [] [] within h i v = refl
same_digits zero [] (e ∷ es) within h i v = absurd (omega (arith, within))
same_digits zero (d ∷ ds) es within h i v = absurd (omega (arith, within))
same_digits (suc n) ds es within h i v = same_ends n (λ xs ys. same_digits n xs ys) ds es (ends_in ds) (ends_in es) within h i v

-- ---- zeros at the end

pub not_tens : (ds : List ℕ) (m : ℕ) → AllDigits 10 ds → 0 < length ds → get_or ds (length ds - 1) 0 ≢ 48 → digits_value 10 ds ≡ m * 10 → ⊥
not_tens ds m all some last is = by_end (ends_in ds)
  where
    by_end : EndsIn ds → ⊥
    by_end (inl e) = let none = ap (λ (xs : List ℕ). length xs) e in omega (arith, none, some)
    by_end (inr e) =
        let pushed = ap (digits_value 10) e.2 ∙ digits_value_push 10 e.0 e.1 in
        let digit = (digits_split e.0 (e.1 ∷ []) (subst (AllDigits 10) e.2 all)).1.0 in
        let other : e.1 ≢ 48 = λ is. last (ap (λ (xs : List ℕ). get_or xs (length xs - 1) 0) e.2 ∙ last_is e.0 e.1 ∙ is) in
        let value = digit_some e.1 digit other in
        omega (arith, pushed, is, digit, value)

same_tens : (a b v w : ℕ) → ((m : ℕ) → v ≡ m * 10 → ⊥) → ((m : ℕ) → w ≡ m * 10 → ⊥) → v * 10 ^ a ≡ w * 10 ^ b → (a ≡ b) × (v ≡ w)
same_tens zero zero v w h i e = (refl, omega (arith, e))
same_tens zero (suc b) v w h i e = let t = times_ten w b in absurd (h (w * 10 ^ b) (omega (arith, e, t)))
same_tens (suc a) zero v w h i e = let t = times_ten v a in absurd (i (v * 10 ^ a) (omega (arith, e, t)))
same_tens (suc a) (suc b) v w h i e =
    let t = times_ten v a in
    let u = times_ten w b in
    let rest = same_tens a b v w h i (omega (arith, e, t, u)) in
    (ap suc rest.0, rest.1)

no_tens : (v n : ℕ) → v * 10 ^ n ≡ 0 → v ≡ 0
no_tens v zero e = omega (arith, e)
no_tens v (suc n) e = let t = times_ten v n in no_tens v n (omega (arith, e, t))

digits_join : (ys zs : List ℕ) → AllDigits 10 ys → AllDigits 10 zs → AllDigits 10 (ys ++ zs)
digits_join [] zs h i = i
digits_join (y ∷ ys) zs h i = (h.0, digits_join ys zs h.1 i)

length-zeros : (n : ℕ) → length (zeros n) ≡ n
length-zeros zero = refl
length-zeros (suc n) = ap suc (length-zeros n)

pub signed_is : (bs : List ℕ) → AllDigits 10 bs → signed_digits_value 10 bs ≡ pos (digits_value 10 bs)
signed_is [] h = refl
signed_is (c ∷ cs) h =
    let range = digit_from_value c h.0 in
    rw (ne_eqb c 45 (λ is. omega (arith, range, is)), ne_eqb c 43 (λ is. omega (arith, range, is))) refl

by_sign : (b : Bool) (x w f l n t : ℕ) (e y : ℤ) → y ≡ pos x → e ≡ (pos w -ℤ pos l) +ℤ cond b (neg_ℤ y) y → w + f ≡ l + (n + t) → e +ℤ pos (f + cond b x 0) ≡ pos (n + t + cond b 0 x)
by_sign true x w f l n t e y is moved written = omega (arith, ints, is, moved, written)
by_sign false x w f l n t e y is moved written = omega (arith, ints, is, moved, written)

-- ---- a numeral and its digits

-- each part of the numeral holds digits alone
abbrev pub AreDigits : Parts → Type 0
AreDigits p = AllDigits 10 p.whole × AllDigits 10 p.fraction × AllDigits 10 p.exponent

digits_in : (p : Parts) → IsWellFormed p → AreDigits p
digits_in p well = (well.whole_digits, well.fraction_digits, well.exponent_digits)

pub nothing_written : (p : Parts) (n : ℕ) → p.whole ++ p.fraction ≡ zeros n → digits_of p ≡ 0
nothing_written p n none = ap (digits_value 10) (none ∙ sym (append-nil (zeros n))) ∙ value_front n []

module _ (p : Parts) (ds : List ℕ) (e : ℤ) (well : AreDigits p) (at : IsPointed p ds e) where
  value_is : digits_of p ≡ digits_value 10 ds * 10 ^ at.trail
  value_is = ap (digits_value 10) at.cut ∙ value_front at.lead (ds ++ zeros at.trail) ∙ value_end ds at.trail

  pub all_digits : AllDigits 10 ds
  all_digits =
      (digits_split ds (zeros at.trail) (digits_split (zeros at.lead) (ds ++ zeros at.trail) (subst (AllDigits 10) at.cut (digits_join p.whole p.fraction well.0 well.1))).1).0

  whole : IsWhole ds
  whole = (all_digits, λ some. at.first)

  no_ten : (m : ℕ) → digits_value 10 ds ≡ m * 10 → ⊥
  no_ten m = not_tens ds m all_digits at.some at.last

  pub scaled : (x : ℕ) → digits_of p * 10 ^ x ≡ digits_value 10 ds * 10 ^ (at.trail + x)
  scaled x = ap (λ v. v * 10 ^ x) value_is ∙ mul_assoc (digits_value 10 ds) (10 ^ at.trail) (10 ^ x) ∙ ap (λ m. digits_value 10 ds * m) (sym (pow-add 10 at.trail x))

  pub exponent_is : e +ℤ pos (tens_down p) ≡ pos (length ds + at.trail + tens_up p)
  exponent_is =
      let long : length (p.whole ++ p.fraction) ≡ length (zeros at.lead ++ (ds ++ zeros at.trail)) = ap (λ (xs : List ℕ). length xs) at.cut in
      let parts = length-append p.whole p.fraction in
      let more = length-append (zeros at.lead) (ds ++ zeros at.trail) in
      let rest = length-append ds (zeros at.trail) in
      let lead = length-zeros at.lead in
      let trail = length-zeros at.trail in
      let written : length p.whole + length p.fraction ≡ at.lead + (length ds + at.trail) = omega (arith, long, parts, more, rest, lead, trail) in
      by_sign p.exponent_negative (digits_value 10 p.exponent) (length p.whole) (length p.fraction) at.lead (length ds) at.trail e (signed_digits_value 10 p.exponent) (signed_is p.exponent well.2) at.moved written

some_key : (p q : Parts) (n : ℕ) (ds : List ℕ) (e : ℤ) → p.whole ++ p.fraction ≡ zeros n → AreDigits q → IsPointed q ds e → IsSameNumber p q → ⊥
some_key p q n ds e none well at same =
    let empty = nothing_written p n none in
    let nothing : digits_of q * 10 ^ (tens_up q + tens_down p) ≡ 0 = let none : 0 * 10 ^ (tens_up p + tens_down q) ≡ 0 = omega arith in sym same ∙ ap (λ v. v * 10 ^ (tens_up p + tens_down q)) empty ∙ none in
    let value = no_tens (digits_value 10 ds) (at.trail + (tens_up q + tens_down p)) (sym (scaled q ds e well at (tens_up q + tens_down p)) ∙ nothing) in
    no_ten q ds e well at 0 value

same_placed : (negative : Bool) (ds es : List ℕ) (e f : ℤ) (k l : NumberKey) → ds ≡ es → e ≡ f → IsPlaced negative ds e k → IsPlaced negative es f l → IsSameKey k l
same_placed true ds es e f k l digits exponent h i = (h.0 ∙ sym i.0, h.1 ∙ ap neg_ℤ exponent ∙ sym i.1, h.2 ∙ ap turned digits ∙ sym i.2)
same_placed false ds es e f k l digits exponent h i = (h.0 ∙ sym i.0, h.1 ∙ exponent ∙ sym i.1, h.2 ∙ digits ∙ sym i.2)

same_exponent : (e f : ℤ) (n a b c d x y : ℕ) → e +ℤ pos x ≡ pos (n + a + b) → f +ℤ pos y ≡ pos (n + c + d) → a + (b + y) ≡ c + (d + x) → e ≡ f
same_exponent e f n a b c d x y h i same = omega (arith, ints, h, i, same)

pub one_key : OneKey
one_key negative p q k l wp wq same (inl h) (inl i) = (h.2 ∙ sym i.2, h.3 ∙ sym i.3, h.4 ∙ sym i.4)
one_key negative p q k l wp wq same (inl h) (inr i) = absurd (some_key p q h.0 i.0 i.1 h.1 (digits_in q wq) i.2 same)
one_key negative p q k l wp wq same (inr h) (inl i) = absurd (some_key q p i.0 h.0 h.1 i.1 (digits_in p wp) h.2 (sym same))
one_key negative p q k l wp wq same (inr h) (inr i) =
    let x = tens_up p + tens_down q in
    let y = tens_up q + tens_down p in
    let equal = sym (scaled p h.0 h.1 (digits_in p wp) h.2 x) ∙ same ∙ scaled q i.0 i.1 (digits_in q wq) i.2 y in
    let tens = same_tens (h.2.trail + x) (i.2.trail + y) (digits_value 10 h.0) (digits_value 10 i.0) (no_ten p h.0 h.1 (digits_in p wp) h.2) (no_ten q i.0 i.1 (digits_in q wq) i.2) equal in
    let digits = same_digits (length h.0 + length i.0) h.0 i.0 (omega arith) (whole p h.0 h.1 (digits_in p wp) h.2) (whole q i.0 i.1 (digits_in q wq) i.2) tens.1 in
    let at_q : i.1 +ℤ pos (tens_down q) ≡ pos (length h.0 + i.2.trail + tens_up q) = exponent_is q i.0 i.1 (digits_in q wq) i.2 ∙ ap (λ (n : ℕ). pos (n + i.2.trail + tens_up q)) (ap (λ (xs : List ℕ). length xs) (sym digits)) in
    let exponent = same_exponent h.1 i.1 (length h.0) h.2.trail (tens_up p) i.2.trail (tens_up q) (tens_down p) (tens_down q) (exponent_is p h.0 h.1 (digits_in p wp) h.2) at_q tens.0 in
    same_placed negative h.0 i.0 h.1 i.1 k l digits exponent h.3 i.3
