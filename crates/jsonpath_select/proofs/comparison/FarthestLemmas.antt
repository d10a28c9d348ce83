-- The farthest of each kind stand for all, and so do the sets of them.
use Rattle.std.proofs.Common.{◌≡◌, ℕ, zero, suc, ◌+◌, ◌<◌, ◌≤◌, List, [], ◌∷◌, ◌++◌, map, length, drop, get_or, Bool, true, false, cond, ◌||◌, Bor, Ordering, refl, sym, subst, ap, ap₂, ◌∙◌, arith, drop-cons, drop_of_length-le, IsTrue, ℤ}
use Rattle.std.specs.BTreeSet.{insert_key}
use Rattle.std.specs.Cmp.{IsTotalOrder, back_total, bool_cmp_total}
use Rattle.std.specs.Cmp.Lexicographic.{slice_cmp}
use Rattle.std.specs.List.{list_any}
use Rattle.std.specs.Ordering.{nat_cmp, bool_cmp, is_lt, is_le, is_eq, flip_args, ordering_reverse}
use Rattle.std.proofs.Math.ListN.{set}
use Rattle.std.proofs.lemmas.Cmp.{alike_right, nat_list_cmp_total}
use Rattle.std.proofs.Math.Bool.{or-false, or_assoc}
use Rattle.jsonpath_paths.specs.declared.token.tokens.FilterToken.{FilterToken}
use Rattle.jsonpath_paths.specs.declared.token.tokens.FilterToken.TheVariants as op
use Rattle.jsonpath_nodes.specs.compare.Comparisons.{Comparison, equal, not_equal, less, less_or_equal, greater, greater_or_equal, Seen, null_value, truth, fraction, text, pair, is_satisfied, is_equal, is_not_equal, fraction_cmp}
use Rattle.jsonpath_nodes.specs.compare.Fractions.{fraction_order, fraction_total}
use Rattle.jsonpath_select.specs.Parts.{is_pair}
use Rattle.jsonpath_select.specs.plan.Deciders.{is_order, kind, some_right, is_among_known}
use Rattle.jsonpath_select.specs.declared.comparison.value_set.ValueSet.{ValueSet}
use Rattle.jsonpath_select.proofs.comparison.ByKindLemmas.{ByKind, number_over, truth_or, number_or, text_or}
use Rattle.jsonpath_select.proofs.comparison.ExtremeLemmas.{lt_is, back_lt, back_le, below_right, upto_right, swap_in, insert_test}

-- ---- lists of values, as they are seen

module _ {A : Type 0} (see : A → Seen) (test : Seen → Bool) where
  -- what is known of the values so far, and one more
  pub next_value : (atoms : List A) (i : ℕ) (a : A) (old new all : Bool) → a ≡ get_or atoms i a → i < length atoms → new ≡ (test (see a) || old)
      → (old || list_any test (map see (drop i atoms))) ≡ all → (new || list_any test (map see (drop (i + 1) atoms))) ≡ all
  next_value atoms i a old new all is below more held =
      let next : suc i ≡ i + 1 = omega arith in
      let rest = list_any test (map see (drop (i + 1) atoms)) in
      let step : drop i atoms ≡ a ∷ drop (i + 1) atoms = drop-cons atoms i a below ∙ ap₂ (λ (b : A) (j : ℕ). b ∷ drop j atoms) (sym is) next in
      ap (λ b. b || rest) more ∙ or_assoc (test (see a)) old rest ∙ swap_in (test (see a)) old rest ∙ ap (λ (xs : List A). old || list_any test (map see xs)) (sym step) ∙ held

  pub no_more_values : (atoms : List A) (i : ℕ) (old all : Bool) → length atoms ≤ i → (old || list_any test (map see (drop i atoms))) ≡ all → old ≡ all
  no_more_values atoms i old all over held =
      sym (or-false old) ∙ ap (λ (xs : List A). old || list_any test (map see xs)) (sym (drop_of_length-le atoms {i = i} over)) ∙ held

  -- a value in place of another that it stands for
  put_in_place : (xs : List A) (i : ℕ) (d v : A) → i < length xs → test (see v) ≡ (test (see v) || test (see (get_or xs i d))) → list_any test (map see (set xs i v)) ≡ (test (see v) || list_any test (map see xs))
  put_in_place [] i d v below h = absurd (omega arith)
  put_in_place (x ∷ xs) zero d v below h = ap (λ b. b || list_any test (map see xs)) h ∙ or_assoc (test (see v)) (test (see x)) (list_any test (map see xs))
  put_in_place (x ∷ xs) (suc i) d v below h = ap (λ b. test (see x) || b) (put_in_place xs i d v (omega arith) h) ∙ swap_in (test (see x)) (test (see v)) (list_any test (map see xs))

  -- a value that one of the list stands for
  stood_for : (xs : List A) (i : ℕ) (d : A) (b : Bool) → i < length xs → test (see (get_or xs i d)) ≡ (b || test (see (get_or xs i d))) → list_any test (map see xs) ≡ (b || list_any test (map see xs))
  stood_for [] i d b below h = absurd (omega arith)
  stood_for (x ∷ xs) zero d b below h = ap (λ c. c || list_any test (map see xs)) h ∙ or_assoc b (test (see x)) (list_any test (map see xs))
  stood_for (x ∷ xs) (suc i) d b below h = ap (λ c. test (see x) || c) (stood_for xs i d b (omega arith) h) ∙ swap_in (test (see x)) b (list_any test (map see xs))

  added_last : (xs : List A) (v : A) → list_any test (map see (xs ++ v ∷ [])) ≡ (test (see v) || list_any test (map see xs))
  added_last [] v = refl
  added_last (x ∷ xs) v = ap (λ b. test (see x) || b) (added_last xs v) ∙ swap_in (test (see x)) (test (see v)) (list_any test (map see xs))

  pub pushed : (xs ys : List A) (v : A) (some : Bool) → ys ≡ xs ++ v ∷ [] → list_any test (map see xs) ≡ some → list_any test (map see ys) ≡ (test (see v) || some)
  pushed xs ys v some more known = ap (λ (zs : List A). list_any test (map see zs)) more ∙ added_last xs v ∙ ap (λ b. test (see v) || b) known

-- ---- in a total order

abbrev goes_by_order : Comparison → Bool
goes_by_order less = true
goes_by_order less_or_equal = true
goes_by_order greater = true
goes_by_order greater_or_equal = true
goes_by_order _ = false

not_less : (o : Ordering) → is_le o ≡ false → is_lt o ≡ false
not_less o e = grind arith

not_more : (o : Ordering) → is_le o ≡ true → is_lt (ordering_reverse o) ≡ false
not_more o e = grind arith

far_lt : {A : Type 0} (cmp : A → A → Ordering) (total : IsTotalOrder cmp) (a b c : A) → is_lt (cmp a b) ≡ true → is_lt (cmp c a) ≡ true → is_lt (cmp c b) ≡ true
far_lt cmp total a b c h k = ap is_lt (total.trans c a b (lt_is (cmp c a) k) (lt_is (cmp a b) h))

far_le : {A : Type 0} (cmp : A → A → Ordering) (total : IsTotalOrder cmp) (a b c : A) → is_le (cmp a b) ≡ true → is_le (cmp c a) ≡ true → is_le (cmp c b) ≡ true
far_le cmp total a b c h k = upto_right cmp total a b c (ap is_lt (total.antisymm b a) ∙ not_more (cmp a b) h) k

near_lt : {A : Type 0} (cmp : A → A → Ordering) (total : IsTotalOrder cmp) (a b c : A) → is_lt (cmp a b) ≡ false → is_lt (cmp c b) ≡ true → is_lt (cmp c a) ≡ true
near_lt cmp total a b c h k = ap is_lt (below_right cmp total b a c h (lt_is (cmp c b) k))

near_le : {A : Type 0} (cmp : A → A → Ordering) (total : IsTotalOrder cmp) (a b c : A) → is_le (cmp a b) ≡ false → is_le (cmp c b) ≡ true → is_le (cmp c a) ≡ true
near_le cmp total a b c h k = upto_right cmp total b a c (not_less (cmp a b) h) k

-- what satisfies the comparison with the old end does so with a value beyond it
far : {A : Type 0} (cmp : A → A → Ordering) (total : IsTotalOrder cmp) (o : Comparison) → IsTrue (goes_by_order o) → (a b c : A) → is_satisfied o (cmp a b) ≡ true → is_satisfied o (cmp c a) ≡ true → is_satisfied o (cmp c b) ≡ true
far cmp total less order a b c h k = far_lt cmp total a b c h k
far cmp total less_or_equal order a b c h k = far_le cmp total a b c h k
far cmp total greater order a b c h k = back_lt cmp total c b ∙ far_lt (flip_args cmp) (back_total total) a b c (sym (back_lt cmp total a b) ∙ h) (sym (back_lt cmp total c a) ∙ k)
far cmp total greater_or_equal order a b c h k = back_le cmp total c b ∙ far_le (flip_args cmp) (back_total total) a b c (sym (back_le cmp total a b) ∙ h) (sym (back_le cmp total c a) ∙ k)
far cmp total _ order a b c h k = cc

-- what satisfies the comparison with a value that is not beyond the end does so with the end
near : {A : Type 0} (cmp : A → A → Ordering) (total : IsTotalOrder cmp) (o : Comparison) → IsTrue (goes_by_order o) → (a b c : A) → is_satisfied o (cmp a b) ≡ false → is_satisfied o (cmp c b) ≡ true → is_satisfied o (cmp c a) ≡ true
near cmp total less order a b c h k = near_lt cmp total a b c h k
near cmp total less_or_equal order a b c h k = near_le cmp total a b c h k
near cmp total greater order a b c h k = back_lt cmp total c a ∙ near_lt (flip_args cmp) (back_total total) a b c (sym (back_lt cmp total a b) ∙ h) (sym (back_lt cmp total c b) ∙ k)
near cmp total greater_or_equal order a b c h k = back_le cmp total c a ∙ near_le (flip_args cmp) (back_total total) a b c (sym (back_le cmp total a b) ∙ h) (sym (back_le cmp total c b) ∙ k)
near cmp total _ order a b c h k = cc

-- ---- kind by kind

-- the values a and b are of one kind, in which a is the old end
abbrev IsFarther : Seen → Seen → Type 0
IsFarther a b = (o : Comparison) → IsTrue (goes_by_order o) → (x : Seen) → pair o a b ≡ true → pair o x a ≡ true → pair o x b ≡ true

abbrev IsNearer : Seen → Seen → Type 0
IsNearer a b = (o : Comparison) → IsTrue (goes_by_order o) → (x : Seen) → pair o a b ≡ false → pair o x b ≡ true → pair o x a ≡ true

module _ {A : Type 0} (see : A → Seen) (by_kind : ByKind see) (cmp : A → A → Ordering) (total : IsTotalOrder cmp) (by_cmp : (o : Comparison) (a b : A) → pair o (see a) (see b) ≡ is_satisfied o (cmp a b)) (a b : A) where
  far_kind : IsFarther (see a) (see b)
  far_kind o order =
      by_kind (λ x. pair o (see a) (see b) ≡ true → pair o x (see a) ≡ true → pair o x (see b) ≡ true)
      (λ r h k. by_cmp o r b ∙ far cmp total o order a b r (sym (by_cmp o a b) ∙ h) (sym (by_cmp o r a) ∙ k)) (λ x other h k. (other o b).0 ∙ sym (other o a).0 ∙ k)

  near_kind : IsNearer (see a) (see b)
  near_kind o order =
      by_kind (λ x. pair o (see a) (see b) ≡ false → pair o x (see b) ≡ true → pair o x (see a) ≡ true)
      (λ r h k. by_cmp o r a ∙ near cmp total o order a b r (sym (by_cmp o a b) ∙ h) (sym (by_cmp o r b) ∙ k)) (λ x other h k. (other o a).0 ∙ sym (other o b).0 ∙ k)

-- ---- of two values of one kind

covers : (p q : Bool) → (q ≡ true → p ≡ true) → p ≡ (p || q)
covers p q h = grind arith

covered : (p q : Bool) → (q ≡ true → p ≡ true) → p ≡ (q || p)
covered p q h = grind arith

-- the one that stands for both, if the second goes before the first or not
picked : (p : Bool) (test : Seen → Bool) (a b : Seen) → (p ≡ true → test a ≡ true → test b ≡ true) → (p ≡ false → test b ≡ true → test a ≡ true) → test (cond p b a) ≡ (test b || test a)
picked true test a b far near = covers (test b) (test a) (far refl)
picked false test a b far near = covered (test a) (test b) (near refl)

never_equal : (o : Comparison) → IsTrue (goes_by_order o) → is_equal o ≡ false
never_equal equal order = cc
never_equal _ order = refl

never_unequal : (o : Comparison) → IsTrue (goes_by_order o) → is_not_equal o ≡ false
never_unequal not_equal order = cc
never_unequal _ order = refl

-- none satisfies a comparison by order with a value that has no order
no_order : (o : Comparison) → is_equal o ≡ false → is_not_equal o ≡ false → (x y : Seen) → kind y ≡ 0 → pair o x y ≡ false
no_order o e n null_value null_value none = e
no_order o e n (truth a) (truth b) none = absurd (omega arith)
no_order o e n (fraction a m) (fraction b k) none = absurd (omega arith)
no_order o e n (text a) (text b) none = absurd (omega arith)
no_order o e n x y none = n

-- which of two values decides for both
abbrev DecidesForBoth : Comparison → Seen → Seen → Type 0
DecidesForBoth o a b = (x : Seen) → pair o x (cond (pair o a b) b a) ≡ (pair o x b || pair o x a)

of_no_order : (o : Comparison) → IsTrue (goes_by_order o) → (a b : Seen) → kind a ≡ 0 → kind b ≡ 0 → DecidesForBoth o a b
of_no_order o order a b none none' x =
    let first = no_order o (never_equal o order) (never_unequal o order) x a none in
    let second = no_order o (never_equal o order) (never_unequal o order) x b none' in
    picked (pair o a b) (pair o x) a b (λ h k. let never : true ≡ false = sym k ∙ first in cc) (λ h k. let never : true ≡ false = sym k ∙ second in cc)

module _ {A : Type 0} (see : A → Seen) (by_kind : ByKind see) (cmp : A → A → Ordering) (total : IsTotalOrder cmp) (by_cmp : (o : Comparison) (a b : A) → pair o (see a) (see b) ≡ is_satisfied o (cmp a b)) (o : Comparison) (order : IsTrue (goes_by_order o)) (a b : A) where
  of_order : DecidesForBoth o (see a) (see b)
  of_order x = picked (pair o (see a) (see b)) (pair o x) (see a) (see b) (far_kind see by_kind cmp total by_cmp a b o order x) (near_kind see by_kind cmp total by_cmp a b o order x)

of_one_kind : (o : Comparison) → IsTrue (goes_by_order o) → (a b : Seen) → kind a ≡ kind b → DecidesForBoth o a b
of_one_kind o order (truth a) (truth b) same = of_order truth truth_or bool_cmp bool_cmp_total (λ o b c. refl) o order a b
of_one_kind o order (fraction a m) (fraction b n) same = of_order number_over number_or fraction_order fraction_total (λ o b c. refl) o order (a, m) (b, n)
of_one_kind o order (text a) (text b) same = of_order text text_or (slice_cmp nat_cmp) nat_list_cmp_total (λ o b c. refl) o order a b
of_one_kind o order (truth a) b same = absurd (omega arith)
of_one_kind o order (fraction a m) b same = absurd (omega arith)
of_one_kind o order (text a) b same = absurd (omega arith)
of_one_kind o order a b same = of_no_order o order a b refl (sym same)

-- ---- the extremes with one more value

by_order : (P : (Seen → Seen → Bool) → Type 0) → ((o : Comparison) → IsTrue (goes_by_order o) → P (pair o)) → (f : FilterToken) → IsTrue (is_order f) → P (is_pair f)
by_order P each op.Little order = each less refl
by_order P each op.LittleOrEqual order = each less_or_equal refl
by_order P each op.Greater order = each greater refl
by_order P each op.GreaterOrEqual order = each greater_or_equal refl
by_order P each _ order = cc

module _ {A : Type 0} (see : A → Seen) (f : FilterToken) (order : IsTrue (is_order f)) (few : List A) (i : ℕ) (a v : A) (is : a ≡ get_or few i a) (below : i < length few) (same : kind (see (get_or few i a)) ≡ kind (see v)) (x : Seen) where
  decided_by : (b : Bool) → is_pair f (see a) (see v) ≡ b → is_pair f x (cond b (see v) (see a)) ≡ (is_pair f x (see v) || is_pair f x (see a))
  decided_by b h =
      ap (λ c. is_pair f x (cond c (see v) (see a))) (sym h)
      ∙ by_order (λ p. p x (cond (p (see a) (see v)) (see v) (see a)) ≡ (p x (see v) || p x (see a))) (λ o goes. of_one_kind o goes (see a) (see v) (ap (λ (c : A). kind (see c)) is ∙ same) x) f order

  pub farther_end : is_pair f (see a) (see v) ≡ true → some_right f x (map see (set few i v)) ≡ (is_pair f x (see v) || some_right f x (map see few))
  farther_end beyond = put_in_place see (is_pair f x) few i a v below (decided_by true beyond ∙ ap (λ (c : A). is_pair f x (see v) || is_pair f x (see c)) is)

  pub nearer_end : is_pair f (see a) (see v) ≡ false → some_right f x (map see few) ≡ (is_pair f x (see v) || some_right f x (map see few))
  nearer_end within = stood_for see (is_pair f x) few i a (is_pair f x (see v)) below (let P : A → Type 0 = λ c. is_pair f x (see c) ≡ (is_pair f x (see v) || is_pair f x (see c)) in subst P is (decided_by false within))

-- ---- the sets with one more value

module _ {N : Type 0} (frac : N → ℤ × ℕ) (k : ValueSet N) where
  pub nothing_known : (all : Bool) (x : Seen) → k.numbers.keys ≡ [] → k.texts.keys ≡ [] → k.has_null ≡ false → k.has_true ≡ false → k.has_false ≡ false → (is_among_known frac k x || all) ≡ all
  nothing_known all x e g n t f = ap (λ b. b || all) (by x)
    where
      by : (x : Seen) → is_among_known frac k x ≡ false
      by null_value = n
      by (truth true) = t
      by (truth false) = f
      by (fraction a m) = ap (list_any (λ d. is_eq (fraction_cmp a m (frac d.now).0 (frac d.now).1))) e
      by (text s) = ap (list_any (λ (d : Bor (List ℕ)). is_eq (slice_cmp nat_cmp s d.now))) g
      by _ = refl

  pub number_known : (cmp : N → N → Ordering) → ((a b : N) → cmp a b ≡ fraction_order (frac a) (frac b)) → (d : Bor N) (new : List (Bor N)) (x : Seen) → new ≡ insert_key (λ (a b : Bor N). cmp a.now b.now) k.numbers.keys d
      → is_among_known frac (record k { numbers = record { keys = new } }) x ≡ (pair equal x (number_over (frac d.now)) || is_among_known frac k x)
  number_known cmp in_order d new (fraction a m) h =
      ap (list_any (λ (e : Bor N). is_eq (fraction_cmp a m (frac e.now).0 (frac e.now).1))) h
      ∙ insert_test (λ (a b : Bor N). cmp a.now b.now) (λ e. is_eq (fraction_cmp a m (frac e.now).0 (frac e.now).1))
      (λ b c same. ap is_eq (alike_right fraction_total (frac b.now) (frac c.now) (a, m) (sym (in_order b.now c.now) ∙ same))) d k.numbers.keys
  number_known cmp in_order d new (truth true) h = refl
  number_known cmp in_order d new _ h = refl

  pub text_known : (t : Bor (List ℕ)) (new : List (Bor (List ℕ))) (x : Seen) → new ≡ insert_key (λ a b. slice_cmp nat_cmp a.now b.now) k.texts.keys t
      → is_among_known frac (record k { texts = record { keys = new } }) x ≡ (pair equal x (text t.now) || is_among_known frac k x)
  text_known t new (text s) h =
      ap (list_any (λ e. is_eq (slice_cmp nat_cmp s e.now))) h
      ∙ insert_test (λ a b. slice_cmp nat_cmp a.now b.now) (λ e. is_eq (slice_cmp nat_cmp s e.now)) (λ a b same. ap is_eq (alike_right nat_list_cmp_total a.now b.now s same)) t k.texts.keys
  text_known t new (truth true) h = refl
  text_known t new _ h = refl
