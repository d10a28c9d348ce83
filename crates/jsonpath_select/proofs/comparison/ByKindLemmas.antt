-- Values by their kinds: of two kinds, and of a kind with no order, a comparison asks only whether it is `!=`.
use Rattle.std.proofs.Common.{◌≡◌, ℕ, List, Bool, refl, ℤ}
use Rattle.jsonpath_nodes.specs.compare.Comparisons.{Comparison, Seen, null_value, truth, fraction, text, unread, list, members, pair, is_not_equal}

abbrev pub AreOfTwoKinds : Seen → Seen → Type 0
AreOfTwoKinds x y = (o : Comparison) → (pair o x y ≡ is_not_equal o) × (pair o y x ≡ is_not_equal o)

-- the value is none of those of this kind
abbrev pub IsOther : {A : Type 0} → (A → Seen) → Seen → Type 0
IsOther {A} see x = (o : Comparison) (a : A) → (pair o x (see a) ≡ is_not_equal o) × (pair o (see a) x ≡ is_not_equal o)

-- what holds of those of one kind, and of all others, holds of each
abbrev pub ByKind : {A : Type 0} → (A → Seen) → Type 1
ByKind {A} see = (P : Seen → Type 0) → ((a : A) → P (see a)) → ((x : Seen) → IsOther see x → P x) → (x : Seen) → P x

pub truth_or : ByKind truth
truth_or P own other (truth b) = own b
truth_or P own other x = other x (λ o a. (refl, refl))

abbrev pub number_over : ℤ × ℕ → Seen
number_over p = fraction p.0 p.1

pub number_or : ByKind number_over
number_or P own other (fraction a m) = own (a, m)
number_or P own other x = other x (λ o a. (refl, refl))

pub text_or : ByKind text
text_or P own other (text t) = own t
text_or P own other x = other x (λ o a. (refl, refl))

module _ (P : Seen → Seen → Type 0) (nulls : P null_value null_value) (truths : (a b : Bool) → P (truth a) (truth b)) (numbers : (p q : ℤ × ℕ) → P (number_over p) (number_over q)) (texts : (a b : List ℕ) → P (text a) (text b))
    (others : (x y : Seen) → AreOfTwoKinds x y → P x y) where
  pub two_kinds : (x y : Seen) → P x y
  two_kinds null_value null_value = nulls
  two_kinds (truth a) (truth b) = truths a b
  two_kinds (fraction a m) (fraction b n) = numbers (a, m) (b, n)
  two_kinds (text a) (text b) = texts a b
  two_kinds unread null_value = others unread null_value (λ o. (refl, refl))
  two_kinds list null_value = others list null_value (λ o. (refl, refl))
  two_kinds members null_value = others members null_value (λ o. (refl, refl))
  two_kinds x y = others x y (λ o. (refl, refl))
