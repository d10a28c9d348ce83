-- Two values that differ stand for all on the right of `!=`.
use Rattle.std.proofs.Common.{◌≡◌, ℕ, zero, suc, ◌<◌, List, [], ◌∷◌, map, length, get_or, Bool, true, false, ◌||◌, Ordering, Equal, refl, sym, ap, ◌∙◌, arith}
use Rattle.std.specs.Cmp.{bool_cmp_total}
use Rattle.std.specs.List.{list_any}
use Rattle.std.specs.Ordering.{is_ne}
use Rattle.std.proofs.Math.Bool.{or-true}
use Rattle.std.proofs.lemmas.Bool.{or_parts}
use Rattle.std.proofs.lemmas.Cmp.{nat_list_cmp_total}
use Rattle.jsonpath_nodes.specs.compare.Comparisons.{not_equal, Seen, truth, text, pair}
use Rattle.jsonpath_nodes.specs.compare.Fractions.{fraction_total}
use Rattle.jsonpath_select.specs.plan.Deciders.{IsAmong}
use Rattle.jsonpath_select.proofs.comparison.FlippedLemmas.{pair_turned}
use Rattle.jsonpath_select.proofs.comparison.ByKindLemmas.{number_over, truth_or, number_or, text_or, two_kinds}

same_place : (o : Ordering) → is_ne o ≡ false → o ≡ Equal
same_place o e = grind arith

-- what is not unequal to a value is unequal to the same as it
alike : (x f : Seen) → pair not_equal x f ≡ false → (a : Seen) → pair not_equal x a ≡ pair not_equal f a
alike =
    two_kinds (λ x f. pair not_equal x f ≡ false → (a : Seen) → pair not_equal x a ≡ pair not_equal f a) (λ h a. refl)
    (λ p q h. truth_or (λ a. pair not_equal (truth p) a ≡ pair not_equal (truth q) a) (λ r. ap is_ne (bool_cmp_total.congr p q r (same_place _ h))) (λ y other. (other not_equal p).1 ∙ sym (other not_equal q).1))
    (λ p q h. number_or (λ a. pair not_equal (number_over p) a ≡ pair not_equal (number_over q) a) (λ r. ap is_ne (fraction_total.congr p q r (same_place _ h))) (λ y other. (other not_equal p).1 ∙ sym (other not_equal q).1))
    (λ p q h. text_or (λ a. pair not_equal (text p) a ≡ pair not_equal (text q) a) (λ r. ap is_ne (nat_list_cmp_total.congr p q r (same_place _ h))) (λ y other. (other not_equal p).1 ∙ sym (other not_equal q).1))
    (λ x f apart h a. let never : true ≡ false = sym (apart not_equal).0 ∙ h in cc)

-- where all others are equal to the first, the first decides
pub first_decides : (f : Seen) (ys : List Seen) → list_any (pair not_equal f) ys ≡ false → (x : Seen) → (pair not_equal x f || false) ≡ (pair not_equal x f || list_any (pair not_equal x) ys)
first_decides f [] h x = refl
first_decides f (y ∷ ys) h x =
    let parts = or_parts (pair not_equal f y) (list_any (pair not_equal f) ys) h in
    let same : pair not_equal x f ≡ pair not_equal x y = pair_turned not_equal x f ∙ alike f y parts.0 x ∙ sym (pair_turned not_equal x y) in
    grind (arith, first_decides f ys parts.1 x, same)

-- two that differ decide
pub two_decide : (f a : Seen) (ys : List Seen) → pair not_equal f a ≡ true → IsAmong a ys → (x : Seen) → (pair not_equal x a || (pair not_equal x f || false)) ≡ (pair not_equal x f || list_any (pair not_equal x) ys)
two_decide f a ys differ among x = by (pair not_equal x f) refl
  where
    by : (b : Bool) → pair not_equal x f ≡ b → (pair not_equal x a || (b || false)) ≡ (b || list_any (pair not_equal x) ys)
    by true is = or-true (pair not_equal x a)
    by false is =
        let unequal : pair not_equal x a ≡ true = alike x f is a ∙ differ in
        ap (λ b. b || false) unequal ∙ sym (among (pair not_equal x) unequal)

-- a value at a place is among them
pub among_at : {A : Type 0} (see : A → Seen) (atoms : List A) (i : ℕ) (a d : A) → a ≡ get_or atoms i d → i < length atoms → IsAmong (see a) (map see atoms)
among_at see [] i a d is below test h = absurd (omega arith)
among_at {A} see (b ∷ atoms) zero a d is below test h = ap (λ (c : A). test (see c) || list_any test (map see atoms)) (sym is) ∙ ap (λ c. c || list_any test (map see atoms)) h
among_at see (b ∷ atoms) (suc i) a d is below test h = ap (λ c. test (see b) || c) (among_at see atoms i a d is (omega arith) test h) ∙ or-true (test (see b))
