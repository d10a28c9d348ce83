-- A comparison with its sides changed.
use Rattle.std.proofs.Common.{◌≡◌, ℕ, zero, suc, List, [], ◌∷◌, Bool, cond, ◌||◌, Ordering, Less, refl, sym, ap, ap₂, ◌∙◌}
use Rattle.std.specs.Cmp.{IsTotalOrder, bool_cmp_total}
use Rattle.std.specs.Cmp.Lexicographic.{slice_cmp}
use Rattle.std.specs.List.{list_any}
use Rattle.std.specs.Ordering.{nat_cmp, bool_cmp, ordering_reverse}
use Rattle.std.proofs.Math.Bool.{or_assoc}
use Rattle.std.proofs.lemmas.Cmp.{nat_list_cmp_total}
use Rattle.jsonpath_nodes.specs.compare.Fractions.{fraction_order, fraction_total}
use Rattle.jsonpath_nodes.specs.document.Document.{Document}
use Rattle.jsonpath_paths.specs.declared.token.tokens.FilterToken.{FilterToken}
use Rattle.jsonpath_paths.specs.declared.token.tokens.FilterToken.TheVariants as op
use Rattle.jsonpath_nodes.specs.compare.Comparisons.{Comparison, equal, not_equal, less, less_or_equal, greater, greater_or_equal, Seen, pair, is_satisfied, is_equal, is_not_equal}
use Rattle.jsonpath_select.specs.plan.Deciders.{with_sides_swapped}
use Rattle.jsonpath_select.specs.plan.Machine.{Operand, values_front, values_behind, compared}
use Rattle.jsonpath_select.specs.Parts.{is_pair, has_pair}
use Rattle.jsonpath_select.proofs.comparison.ExtremeLemmas.{none_right, swap_in}
use Rattle.jsonpath_select.proofs.comparison.ByKindLemmas.{two_kinds}

any_or : {A : Type 0} (f g : A → Bool) (xs : List A) → list_any (λ x. f x || g x) xs ≡ (list_any f xs || list_any g xs)
any_or f g [] = refl
any_or f g (x ∷ xs) =
    ap (λ b. (f x || g x) || b) (any_or f g xs) ∙ or_assoc (f x) (g x) (list_any f xs || list_any g xs)
    ∙ ap (λ b. f x || b) (swap_in (g x) (list_any f xs) (list_any g xs)) ∙ sym (or_assoc (f x) (list_any f xs) (g x || list_any g xs))

any_swap : {A B : Type 0} (p : A → B → Bool) (xs : List A) (ys : List B) → list_any (λ x. list_any (λ y. p x y) ys) xs ≡ list_any (λ y. list_any (λ x. p x y) xs) ys
any_swap p [] ys = sym (none_right ys)
any_swap p (x ∷ xs) ys = ap (λ b. list_any (λ y. p x y) ys || b) (any_swap p xs ys) ∙ sym (any_or (λ y. p x y) (λ y. list_any (λ a. p a y) xs) ys)

-- ---- two values

abbrev turned : Comparison → Comparison
turned equal = equal
turned not_equal = not_equal
turned less = greater
turned less_or_equal = greater_or_equal
turned greater = less
turned greater_or_equal = less_or_equal

back : (o : Comparison) (r : Ordering) → is_satisfied o (ordering_reverse r) ≡ is_satisfied (turned o) r
back equal Less = refl
back _ Less = refl
back _ _ = refl

in_order : {A : Type 0} (cmp : A → A → Ordering) → IsTotalOrder cmp → (o : Comparison) (a b : A) → is_satisfied o (cmp a b) ≡ is_satisfied (turned o) (cmp b a)
in_order cmp total o a b = ap (is_satisfied o) (total.antisymm a b) ∙ back o (cmp b a)

same_turned : (o : Comparison) → (is_equal o ≡ is_equal (turned o)) × (is_not_equal o ≡ is_not_equal (turned o))
same_turned equal = (refl, refl)
same_turned _ = (refl, refl)

pub pair_turned : (o : Comparison) (x y : Seen) → pair o x y ≡ pair (turned o) y x
pair_turned o =
    two_kinds (λ x y. pair o x y ≡ pair (turned o) y x) (same_turned o).0 (in_order bool_cmp bool_cmp_total o) (in_order fraction_order fraction_total o) (in_order (slice_cmp nat_cmp) nat_list_cmp_total o)
    (λ x y apart. (apart o).0 ∙ (same_turned o).1 ∙ sym (apart (turned o)).1)

pair_flipped : (f : FilterToken) (x y : Seen) → is_pair f x y ≡ is_pair (with_sides_swapped f) y x
pair_flipped op.Equal x y = pair_turned equal x y
pair_flipped op.NotEqual x y = pair_turned not_equal x y
pair_flipped op.Little x y = pair_turned less x y
pair_flipped op.LittleOrEqual x y = pair_turned less_or_equal x y
pair_flipped op.Greater x y = pair_turned greater x y
pair_flipped op.GreaterOrEqual x y = pair_turned greater_or_equal x y
pair_flipped _ x y = refl

-- ---- two lists

has_pair_flipped : (f : FilterToken) (xs ys : List Seen) → has_pair f xs ys ≡ has_pair (with_sides_swapped f) ys xs
has_pair_flipped f xs ys = (λ i. list_any (λ x. list_any (λ y. pair_flipped f x y i) ys) xs) ∙ any_swap (λ x y. is_pair (with_sides_swapped f) y x) xs ys

pub compared_flipped : (doc : Document) (f : FilterToken) (t k : ℕ) (a b : Operand) → compared doc (with_sides_swapped f) t k b a ≡ compared doc f t k a b
compared_flipped doc f t zero a b = refl
compared_flipped doc f t (suc k) a b =
    ap₂ (λ h (ts : List ℕ). cond h (t ∷ ts) ts) (sym (has_pair_flipped f (values_front doc t a) (values_front doc t b))) (compared_flipped doc f (suc t) k (values_behind t a) (values_behind t b))
