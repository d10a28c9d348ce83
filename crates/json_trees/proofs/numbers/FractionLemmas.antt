-- Two numbers' texts compare as their fractions do.
use Rattle.std.proofs.Common.{◌≡◌, ℕ, zero, suc, ◌+◌, ◌*◌, ◌^◌, ℤ, pos, neg_ℤ, List, Bool, true, false, drop, if◌then◌else◌, Ordering, refl, sym, ap, ap₂, ◌∙◌, arith}
use Rattle.std.specs.Prelude.{◌*ℤ◌}
use Rattle.std.specs.Ordering.{int_cmp}
use Rattle.std.proofs.Math.IntN.{pos-*ℤ-pos, negsuc-*ℤ-pos}
use Rattle.std.proofs.Math.Nat.{mul_assoc}
use Rattle.std.proofs.Props.{props}
use mathlib.Core.Logic.{∥∥₁_elim}
use Rattle.std.proofs.lemmas.Nat.{pow-add}
use Rattle.fast_float.specs.Text.{Parts, scan, digits_of, tens_up, tens_down, with_sign}
use Rattle.jsonpath_nodes.specs.compare.Fractions.{fraction_order}
use Rattle.json_trees.specs.NumberKey.{IsKeyOf, is_negative, parts_of, number_cmp, text_cmp}
use Rattle.json_trees.specs.OrderedTree.{text_fraction}
use Rattle.json_trees.specs.declared.numbers.number_key.NumberKey.{NumberKey}

negated : (a j : ℕ) → neg_ℤ (pos (a * j)) ≡ neg_ℤ (pos a) *ℤ pos j
negated zero j = let none : 0 * j ≡ 0 = omega arith in rw none refl
negated (suc a) j = sym (negsuc-*ℤ-pos a j)

more_tens : (d u v : ℕ) → d * 10 ^ (u + v) ≡ d * 10 ^ u * 10 ^ v
more_tens d u v = ap (λ n. d * n) (pow-add 10 u v) ∙ sym (mul_assoc d (10 ^ u) (10 ^ v))

signed_tens : (m : Bool) (d u v : ℕ) → with_sign m (d * 10 ^ (u + v)) ≡ with_sign m (d * 10 ^ u) *ℤ pos (10 ^ v)
signed_tens true d u v = ap (λ n. neg_ℤ (pos n)) (more_tens d u v) ∙ negated (d * 10 ^ u) (10 ^ v)
signed_tens false d u v = ap pos (more_tens d u v) ∙ sym (pos-*ℤ-pos (d * 10 ^ u) (10 ^ v))

same_parts : (m : Bool) (s : List ℕ) → (if m then scan (drop 1 s) else scan s) ≡ scan (if m then drop 1 s else s)
same_parts true s = refl
same_parts false s = refl

abbrev pub of_parts : Bool → Parts → ℤ × ℕ
of_parts m p = (with_sign m (digits_of p * 10 ^ tens_up p), tens_down p)

by_parts : (m n : Bool) (p q : Parts) → number_cmp m p n q ≡ fraction_order (of_parts m p) (of_parts n q)
by_parts m n p q = ap₂ int_cmp (signed_tens m (digits_of p) (tens_up p) (tens_down q)) (signed_tens n (digits_of q) (tens_up q) (tens_down p))

pub text_fractions : (s t : List ℕ) → text_cmp s t ≡ fraction_order (text_fraction s) (text_fraction t)
text_fractions s t =
    by_parts (is_negative s) (is_negative t) (parts_of s) (parts_of t)
    ∙ ap₂ (λ p q. fraction_order (of_parts (is_negative s) p) (of_parts (is_negative t) q)) (same_parts (is_negative s) s) (same_parts (is_negative t) t)

-- what is told of keys of two texts, where it is only known that the keys are theirs
pub by_keys : (s t : List ℕ) (k l : NumberKey) (o : Ordering) → ∥ IsKeyOf s k ∥₁ → ∥ IsKeyOf t l ∥₁ → (IsKeyOf s k → IsKeyOf t l → o ≡ text_cmp s t) → o ≡ text_cmp s t
by_keys s t k l o h i f = ∥∥₁_elim h (hlevel props) (λ a. ∥∥₁_elim i (hlevel props) (λ b. f a b))
