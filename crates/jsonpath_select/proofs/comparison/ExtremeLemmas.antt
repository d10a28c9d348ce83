-- Some pair compares so exactly where the ends do, or where the sets meet.
use Rattle.std.proofs.Common.{◌≡◌, ℕ, List, [], ◌∷◌, fold, Bool, true, false, ◌&&◌, ◌||◌, Ordering, Less, Equal, refl, sym, ap, ap₂, ◌∙◌, arith, ℤ}
use Rattle.std.specs.BTreeSet.{insert_key}
use Rattle.std.specs.Cmp.{IsTotalOrder, back_total, bool_cmp_total}
use Rattle.std.specs.List.{list_any}
use Rattle.std.specs.Ordering.{bool_cmp, is_lt, is_le, is_eq, is_gt, is_ge, flip_args}
use Rattle.std.proofs.lemmas.Cmp.{alike_right, nat_list_cmp_total}
use Rattle.std.proofs.Math.Bool.{and-false, or-false, or_assoc, or_comm}
use Rattle.jsonpath_nodes.specs.compare.Comparisons.{Comparison, equal, not_equal, less, less_or_equal, greater, greater_or_equal, Seen, null_value, truth, fraction, text, unread, list, members, pair, is_satisfied, is_equal, is_not_equal}
use Rattle.jsonpath_nodes.specs.compare.Fractions.{fraction_order, fraction_total}
use Rattle.jsonpath_select.specs.comparison.Extremes.{least, greatest, some_pair, ends_meet, sets_meet, EndsDecide, truths, fractions, texts, text_cmp, is_null_value, meets, nulls_meet, is_unequal, EndsDecidePairs}

-- ---- the one value that decides

-- where the test holds of a value it holds of all that are not greater
abbrev IsDown : {A : Type 0} → (A → A → Ordering) → (A → Bool) → Type 0
IsDown {A} cmp test = (a b : A) → is_lt (cmp a b) ≡ false → test a ≡ true → test b ≡ true

pub not_back : {A : Type 0} (cmp : A → A → Ordering) (total : IsTotalOrder cmp) (x y : A) → is_lt (cmp y x) ≡ true → is_lt (cmp x y) ≡ false
not_back cmp total x y h = grind (arith, total.antisymm x y)

least_any : {A : Type 0} (cmp : A → A → Ordering) (total : IsTotalOrder cmp) (test : A → Bool) → IsDown cmp test → (x : A) (xs : List A) → (test x || list_any test xs) ≡ test (least cmp x xs)
least_any cmp total test down x [] = or-false (test x)
least_any cmp total test down x (y ∷ ys) = grind (arith, least_any cmp total test down y ys, least_any cmp total test down x ys, down x y, down y x, not_back cmp total x y)

-- ---- tests of an order

pub lt_is : (o : Ordering) → is_lt o ≡ true → o ≡ Less
lt_is o e = grind arith

-- `<` and `<=` read from the right
pub back_lt : {A : Type 0} (cmp : A → A → Ordering) (total : IsTotalOrder cmp) (a b : A) → is_gt (cmp a b) ≡ is_lt (cmp b a)
back_lt cmp total a b = grind (arith, total.antisymm a b)

pub back_le : {A : Type 0} (cmp : A → A → Ordering) (total : IsTotalOrder cmp) (a b : A) → is_ge (cmp a b) ≡ is_le (cmp b a)
back_le cmp total a b = grind (arith, total.antisymm a b)

pub below_right : {A : Type 0} (cmp : A → A → Ordering) (total : IsTotalOrder cmp) (a b c : A) → is_lt (cmp b a) ≡ false → cmp c a ≡ Less → cmp c b ≡ Less
below_right cmp total a b c h k = grind (arith, alike_right total b a c, total.trans c a b, total.antisymm a b)

pub upto_right : {A : Type 0} (cmp : A → A → Ordering) (total : IsTotalOrder cmp) (a b c : A) → is_lt (cmp b a) ≡ false → is_le (cmp c a) ≡ true → is_le (cmp c b) ≡ true
upto_right cmp total a b c h k = grind (arith, below_right cmp total a b c, alike_right total b a c, total.congr c a b, total.antisymm a b)

-- ---- both ends

pub none_right : {A : Type 0} (xs : List A) → list_any (λ x. false) xs ≡ false
none_right [] = refl
none_right (x ∷ xs) = none_right xs

ends_by : {A : Type 0} (cmp : A → A → Ordering) (total : IsTotalOrder cmp) (test : Ordering → Bool)
    → ((a b c : A) → is_lt (cmp a b) ≡ false → test (cmp a c) ≡ true → test (cmp b c) ≡ true) → ((a b c : A) → is_lt (cmp b a) ≡ false → test (cmp c a) ≡ true → test (cmp c b) ≡ true)
    → (xs ys : List A) → some_pair (λ x y. test (cmp x y)) xs ys ≡ ends_meet test cmp xs ys
ends_by cmp total test left right [] ys = refl
ends_by cmp total test left right (x ∷ xs) [] = none_right xs
ends_by {A} cmp total test left right (x ∷ xs) (y ∷ ys) =
    (λ i. row x i || list_any (λ a. row a i) xs)
    ∙ least_any cmp total (λ a. test (cmp a (greatest cmp y ys))) (λ a b h k. left a b (greatest cmp y ys) h k) x xs
  where
    row : (a : A) → (test (cmp a y) || list_any (λ b. test (cmp a b)) ys) ≡ test (cmp a (greatest cmp y ys))
    row a = least_any (flip_args cmp) (back_total total) (λ b. test (cmp a b)) (λ b c h k. right b c a h k) y ys

pub ends_decide : {A : Type 0} (cmp : A → A → Ordering) → IsTotalOrder cmp → EndsDecide cmp
ends_decide cmp total xs ys = (
  ends_by cmp total is_lt (λ a b c h k. ap is_lt (below_right (flip_args cmp) (back_total total) a b c h (lt_is (cmp a c) k))) (λ a b c h k. ap is_lt (below_right cmp total a b c h (lt_is (cmp c a) k))) xs ys,
  ends_by cmp total is_le (upto_right (flip_args cmp) (back_total total)) (upto_right cmp total) xs ys,
)

-- ---- sets

pub swap_in : (p q r : Bool) → (p || (q || r)) ≡ (q || (p || r))
swap_in p q r = sym (or_assoc p q r) ∙ ap (λ b. b || r) (or_comm p q) ∙ or_assoc q p r

pub insert_test : {K : Type 0} (cmp : K → K → Ordering) (test : K → Bool) → ((k y : K) → cmp k y ≡ Equal → test k ≡ test y) → (k : K) (ys : List K) → list_any test (insert_key cmp ys k) ≡ (test k || list_any test ys)
insert_test cmp test alike k [] = refl
insert_test cmp test alike k (y ∷ ys) = grind (arith, insert_test cmp test alike k ys, alike k y)

fold_any : {A : Type 0} (cmp : A → A → Ordering) (total : IsTotalOrder cmp) (x : A) (ys kept : List A)
    → list_any (λ y. is_eq (cmp x y)) (fold (insert_key cmp) kept ys) ≡ (list_any (λ y. is_eq (cmp x y)) ys || list_any (λ y. is_eq (cmp x y)) kept)
fold_any cmp total x [] kept = refl
fold_any cmp total x (y ∷ ys) kept =
    fold_any cmp total x ys (insert_key cmp kept y)
    ∙ ap (λ (b : Bool). list_any (λ z. is_eq (cmp x z)) ys || b) (insert_test cmp (λ z. is_eq (cmp x z)) (λ k z same. ap is_eq (alike_right total k z x same)) y kept)
    ∙ swap_in (list_any (λ z. is_eq (cmp x z)) ys) (is_eq (cmp x y)) (list_any (λ z. is_eq (cmp x z)) kept)
    ∙ sym (or_assoc (is_eq (cmp x y)) (list_any (λ z. is_eq (cmp x z)) ys) (list_any (λ z. is_eq (cmp x z)) kept))

pub sets_decide : {A : Type 0} (cmp : A → A → Ordering) → IsTotalOrder cmp → (xs ys : List A) → some_pair (λ x y. is_eq (cmp x y)) xs ys ≡ sets_meet cmp xs ys
sets_decide cmp total xs ys = λ i. list_any (λ x. sym (fold_any cmp total x ys [] ∙ or-false (list_any (λ y. is_eq (cmp x y)) ys)) i) xs

-- ---- kind by kind

meets_is : {A : Type 0} (cmp : A → A → Ordering) (total : IsTotalOrder cmp) (op : Comparison) (xs ys : List A) → is_unequal op ≡ false
    → some_pair (λ x y. is_satisfied op (cmp x y)) xs ys ≡ meets op cmp xs ys
meets_is cmp total equal xs ys h = sets_decide cmp total xs ys
meets_is cmp total not_equal xs ys h = cc
meets_is cmp total less xs ys h = (ends_decide cmp total xs ys).0
meets_is cmp total less_or_equal xs ys h = (ends_decide cmp total xs ys).1
meets_is cmp total greater xs ys h = (λ i. list_any (λ x. list_any (λ y. back_lt cmp total x y i) ys) xs) ∙ (ends_decide (flip_args cmp) (back_total total) xs ys).0
meets_is cmp total greater_or_equal xs ys h = (λ i. list_any (λ x. list_any (λ y. back_le cmp total x y i) ys) xs) ∙ (ends_decide (flip_args cmp) (back_total total) xs ys).1

unequal_is : (op : Comparison) → is_unequal op ≡ false → is_not_equal op ≡ false
unequal_is not_equal h = cc
unequal_is _ h = refl

more : (a b c : Bool) → a ≡ false → b ≡ c → (a || b) ≡ c
more a b c h k = grind arith

-- one left value and the right values
truth_row : (op : Comparison) (a : Bool) (ys : List Seen) → is_not_equal op ≡ false → list_any (pair op (truth a)) ys ≡ list_any (λ b. is_satisfied op (bool_cmp a b)) (truths ys)
truth_row op a [] h = refl
truth_row op a (truth b ∷ ys) h = ap (λ (r : Bool). is_satisfied op (bool_cmp a b) || r) (truth_row op a ys h)
truth_row op a (y ∷ ys) h = more (is_not_equal op) (list_any (pair op (truth a)) ys) (list_any (λ b. is_satisfied op (bool_cmp a b)) (truths ys)) h (truth_row op a ys h)

fraction_row : (op : Comparison) (p : ℤ × ℕ) (ys : List Seen) → is_not_equal op ≡ false → list_any (pair op (fraction p.0 p.1)) ys ≡ list_any (λ q. is_satisfied op (fraction_order p q)) (fractions ys)
fraction_row op p [] h = refl
fraction_row op p (fraction b n ∷ ys) h = ap (λ (r : Bool). is_satisfied op (fraction_order p (b, n)) || r) (fraction_row op p ys h)
fraction_row op p (y ∷ ys) h = more (is_not_equal op) (list_any (pair op (fraction p.0 p.1)) ys) (list_any (λ q. is_satisfied op (fraction_order p q)) (fractions ys)) h (fraction_row op p ys h)

text_row : (op : Comparison) (a : List ℕ) (ys : List Seen) → is_not_equal op ≡ false → list_any (pair op (text a)) ys ≡ list_any (λ b. is_satisfied op (text_cmp a b)) (texts ys)
text_row op a [] h = refl
text_row op a (text b ∷ ys) h = ap (λ (r : Bool). is_satisfied op (text_cmp a b) || r) (text_row op a ys h)
text_row op a (y ∷ ys) h = more (is_not_equal op) (list_any (pair op (text a)) ys) (list_any (λ b. is_satisfied op (text_cmp a b)) (texts ys)) h (text_row op a ys h)

null_row : (op : Comparison) (ys : List Seen) → is_not_equal op ≡ false → list_any (pair op null_value) ys ≡ (is_equal op && list_any is_null_value ys)
null_row op [] h = sym (and-false (is_equal op))
null_row op (null_value ∷ ys) h = grind (arith, null_row op ys h)
null_row op (y ∷ ys) h = more (is_not_equal op) (list_any (pair op null_value) ys) (is_equal op && list_any is_null_value ys) h (null_row op ys h)

-- an unread number, an array or an object
other_row : (op : Comparison) (x : Seen) (ys : List Seen) → ((y : Seen) → pair op x y ≡ false) → list_any (pair op x) ys ≡ false
other_row op x [] h = refl
other_row op x (y ∷ ys) h = more (pair op x y) (list_any (pair op x) ys) false (h y) (other_row op x ys h)

abbrev nulls : Comparison → List Seen → List Seen → Bool
nulls op xs ys = list_any is_null_value xs && (is_equal op && list_any is_null_value ys)

abbrev by_kind : Comparison → List Seen → List Seen → Bool
by_kind op xs ys =
    some_pair (λ a b. is_satisfied op (bool_cmp a b)) (truths xs) (truths ys)
    || (some_pair (λ p q. is_satisfied op (fraction_order p q)) (fractions xs) (fractions ys)
    || (some_pair (λ a b. is_satisfied op (text_cmp a b)) (texts xs) (texts ys) || nulls op xs ys))

second : (r t d u : Bool) → (r || (t || (d || u))) ≡ (t || ((r || d) || u))
second r t d u = swap_in r t (d || u) ∙ ap (λ b. t || b) (sym (or_assoc r d u))

third : (r t d s u : Bool) → (r || (t || (d || (s || u)))) ≡ (t || (d || ((r || s) || u)))
third r t d s u = swap_in r t (d || (s || u)) ∙ ap (λ b. t || b) (second r d s u)

fourth : (r t d s n : Bool) → (r || (t || (d || (s || (n && r))))) ≡ (t || (d || (s || r)))
fourth r t d s n = grind arith

kind_rows : (op : Comparison) (xs ys : List Seen) → is_not_equal op ≡ false → some_pair (pair op) xs ys ≡ by_kind op xs ys
kind_rows op [] ys h = refl
kind_rows op (null_value ∷ xs) ys h =
    ap₂ (λ (a b : Bool). a || b) (null_row op ys h) (kind_rows op xs ys h)
    ∙ fourth (is_equal op && list_any is_null_value ys) (some_pair (λ a b. is_satisfied op (bool_cmp a b)) (truths xs) (truths ys))
    (some_pair (λ p q. is_satisfied op (fraction_order p q)) (fractions xs) (fractions ys)) (some_pair (λ a b. is_satisfied op (text_cmp a b)) (texts xs) (texts ys)) (list_any is_null_value xs)
kind_rows op (truth a ∷ xs) ys h =
    ap₂ (λ (a b : Bool). a || b) (truth_row op a ys h) (kind_rows op xs ys h)
    ∙ sym (or_assoc (list_any (λ b. is_satisfied op (bool_cmp a b)) (truths ys)) (some_pair (λ a b. is_satisfied op (bool_cmp a b)) (truths xs) (truths ys))
    (some_pair (λ p q. is_satisfied op (fraction_order p q)) (fractions xs) (fractions ys) || (some_pair (λ a b. is_satisfied op (text_cmp a b)) (texts xs) (texts ys) || nulls op xs ys)))
kind_rows op (fraction a m ∷ xs) ys h =
    ap₂ (λ (a b : Bool). a || b) (fraction_row op (a, m) ys h) (kind_rows op xs ys h)
    ∙ second (list_any (λ q. is_satisfied op (fraction_order (a, m) q)) (fractions ys)) (some_pair (λ a b. is_satisfied op (bool_cmp a b)) (truths xs) (truths ys))
    (some_pair (λ p q. is_satisfied op (fraction_order p q)) (fractions xs) (fractions ys)) (some_pair (λ a b. is_satisfied op (text_cmp a b)) (texts xs) (texts ys) || nulls op xs ys)
kind_rows op (text a ∷ xs) ys h =
    ap₂ (λ (a b : Bool). a || b) (text_row op a ys h) (kind_rows op xs ys h)
    ∙ third (list_any (λ b. is_satisfied op (text_cmp a b)) (texts ys)) (some_pair (λ a b. is_satisfied op (bool_cmp a b)) (truths xs) (truths ys))
    (some_pair (λ p q. is_satisfied op (fraction_order p q)) (fractions xs) (fractions ys)) (some_pair (λ a b. is_satisfied op (text_cmp a b)) (texts xs) (texts ys)) (nulls op xs ys)
kind_rows op (unread ∷ xs) ys h = more (list_any (pair op unread) ys) (some_pair (pair op) xs ys) (by_kind op xs ys) (other_row op unread ys (λ y. h)) (kind_rows op xs ys h)
kind_rows op (list ∷ xs) ys h = more (list_any (pair op list) ys) (some_pair (pair op) xs ys) (by_kind op xs ys) (other_row op list ys (λ y. h)) (kind_rows op xs ys h)
kind_rows op (members ∷ xs) ys h = more (list_any (pair op members) ys) (some_pair (pair op) xs ys) (by_kind op xs ys) (other_row op members ys (λ y. h)) (kind_rows op xs ys h)

nulls_is : (op : Comparison) (xs ys : List Seen) → nulls op xs ys ≡ nulls_meet op xs ys
nulls_is equal xs ys = refl
nulls_is op xs ys = and-false (list_any is_null_value xs)

pub extremes_and_sets_decide_pairs : EndsDecidePairs
extremes_and_sets_decide_pairs op xs ys h =
    kind_rows op xs ys (unequal_is op h)
    ∙ ap₂ (λ (a b : Bool). a || b) (meets_is bool_cmp bool_cmp_total op (truths xs) (truths ys) h)
    (ap₂ (λ (a b : Bool). a || b) (meets_is fraction_order fraction_total op (fractions xs) (fractions ys) h)
    (ap₂ (λ (a b : Bool). a || b) (meets_is text_cmp nat_list_cmp_total op (texts xs) (texts ys) h) (nulls_is op xs ys)))
