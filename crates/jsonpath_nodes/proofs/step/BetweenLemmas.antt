-- The indexes of a range, found one after the other without a look at those between.
use Rattle.std.proofs.Common.{◌≡◌, ℕ, zero, suc, ◌+◌, ◌-◌, ◌%◌, ◌<◌, ◌≤◌, List, [], ◌∷◌, ◌++◌, map, min, Option, ◌⊎◌, append_assoc, append-nil, Bool, true, false, cond, ◌&&◌, refl, sym, ap, ◌∙◌, arith, add-zero}
use Rattle.std.specs.Prelude.{filter, nat_lt, nat_le, ℤ, option_map, unwrap_or}
use Rattle.std.proofs.lemmas.Bool.{le-ltb, lt-leb, ne_eqb, le-leb, lt-ltb}
use Rattle.std.proofs.Math.Bool.{and-false}
use Rattle.jsonpath_nodes.specs.document.Document.{Document}
use Rattle.jsonpath_nodes.specs.place.Location.{Step, index, Location}
use Rattle.jsonpath_nodes.specs.step.Steps.{abs_index, count_up, is_in_range, length_of, present, range, single_steps}
use Rattle.jsonpath_nodes.proofs.step.EachLemmas.{count_up-next, present-within, singles}
use Rattle.jsonpath_nodes.proofs.place.SightLemmas.{Sight}

-- ---- numbers that fail a test are passed over

count_up-none : (n k : ℕ) → k ≡ 0 → count_up n k ≡ []
count_up-none n k none = rw none refl

-- the tests of one number, from the rest
passed_by : (test : ℕ → Bool) (len k n : ℕ) (b : Bool) → nat_lt n len ≡ b → test n ≡ false
    → filter test (count_up (n + 1) (len - (n + 1))) ≡ filter test (count_up (n + 1 + k) (len - (n + 1 + k))) → filter test (count_up n (len - n)) ≡ filter test (count_up (n + suc k) (len - (n + suc k)))
passed_by test len k n b within fails later = grind arith

pub passed_over : (test : ℕ → Bool) (len k n : ℕ) → ((j : ℕ) → n ≤ j → j < n + k → test j ≡ false) → filter test (count_up n (len - n)) ≡ filter test (count_up (n + k) (len - (n + k)))
passed_over test len zero n fails = ap (λ (m : ℕ). filter test (count_up m (len - m))) (sym (add-zero n))
passed_over test len (suc k) n fails = grind (arith, passed_by, passed_over test len k (n + 1) (λ j low high. fails j (omega arith) (omega arith)))

from_zero : (test : ℕ → Bool) (len : ℕ) → filter test (count_up 0 len) ≡ filter test (count_up 0 (len - 0))
from_zero test len = let same : len ≡ len - 0 = omega arith in ap (λ (m : ℕ). filter test (count_up 0 m)) same

-- ---- the test of a range

below_from : (from to step j : ℕ) → j < from → is_in_range from to step j ≡ false
below_from from to step j below = rw (lt-leb from j below) refl

past_to : (from to step j : ℕ) → to ≤ j → is_in_range from to step j ≡ false
past_to from to step j past = rw (le-ltb j to past, and-false (nat_le from j)) refl

between_steps : (from to step j : ℕ) → ((j - from) % step ≡ 0 → ⊥) → is_in_range from to step j ≡ false
between_steps from to step j off = rw (ne_eqb _ _ off, and-false (nat_le from j && nat_lt j to && nat_lt 0 step)) refl

step_zero : (from to j : ℕ) → is_in_range from to 0 j ≡ false
step_zero from to j = rw (and-false (nat_le from j && nat_lt j to)) refl

in_range : (from to step i : ℕ) → from ≤ i → i < to → 0 < step → (i - from) % step ≡ 0 → is_in_range from to step i ≡ true
in_range from to step i low high some on = rw (le-leb from i low, lt-ltb i to high, lt-ltb 0 step some, on) refl

-- ---- from one index of the range to the next

pub before_first : (from to step len : ℕ) → filter (is_in_range from to step) (count_up 0 len) ≡ filter (is_in_range from to step) (count_up from (len - from))
before_first from to step len =
    let same : 0 + from ≡ from = omega arith in
    from_zero (is_in_range from to step) len ∙ passed_over (is_in_range from to step) len from 0 (λ j low high. below_from from to step j (omega arith))
    ∙ ap (λ (m : ℕ). filter (is_in_range from to step) (count_up m (len - m))) same

pub none_with_step_zero : (from to len : ℕ) → filter (is_in_range from to 0) (count_up 0 len) ≡ []
none_with_step_zero from to len =
    from_zero (is_in_range from to 0) len ∙ passed_over (is_in_range from to 0) len len 0 (λ j low high. step_zero from to j) ∙ ap (filter (is_in_range from to 0)) (count_up-none (0 + len) (len - (0 + len)) (omega arith))

pub none_past_end : (from to step i len : ℕ) → to ≤ i → filter (is_in_range from to step) (count_up i (len - i)) ≡ []
none_past_end from to step i len past =
    passed_over (is_in_range from to step) len len i (λ j low high. past_to from to step j (omega arith)) ∙ ap (filter (is_in_range from to step)) (count_up-none (i + len) (len - (i + len)) (omega arith))

off_step : (from step i j : ℕ) → from ≤ i → (i - from) % step ≡ 0 → i < j → j < i + step → (j - from) % step ≡ 0 → ⊥
off_step from step i j low on above below zero_at = grind arith

-- an index of the range is followed by those from one step further on
pub next_in_range : (from to step i len : ℕ) → from ≤ i → i < to → to ≤ len → 0 < step → (i - from) % step ≡ 0
    → filter (is_in_range from to step) (count_up i (len - i)) ≡ i ∷ filter (is_in_range from to step) (count_up (i + step) (len - (i + step)))
next_in_range from to step i len low high within some on =
    let test = is_in_range from to step in
    let here : filter test (count_up i (len - i)) ≡ i ∷ filter test (count_up (i + 1) (len - (i + 1))) =
    ap (filter test) (count_up-next i len (omega arith)) ∙ ap (λ b. cond b (i ∷ filter test (count_up (i + 1) (len - (i + 1)))) (filter test (count_up (i + 1) (len - (i + 1))))) (in_range from to step i low high some on) in
    let same : (i + 1) + (step - 1) ≡ i + step = omega arith in
    here ∙ ap (λ (xs : List ℕ). i ∷ xs)
    (passed_over test len (step - 1) (i + 1) (λ j above below. between_steps from to step j (λ e. off_step from step i j low on (omega arith) (omega arith) e))
    ∙ ap (λ (m : ℕ). filter test (count_up m (len - m))) same)

-- ---- the loop over a range

abbrev pub in_range_from : ℕ → ℕ → ℕ → ℕ → ℕ → List ℕ
in_range_from from to step len i = filter (is_in_range from to step) (count_up i (len - i))

-- past the end it does not matter where the search goes on
pub same_from : (from to step len i j : ℕ) → (j ≡ i) ⊎ ((to ≤ j) × (to ≤ i)) → in_range_from from to step len j ≡ in_range_from from to step len i
same_from from to step len i j h = grind (arith, none_past_end)

-- what a look shows at these indexes
abbrev pub shown : (Location → Sight) → List ℕ → List Sight
shown look is = map look (singles (map index is))

pub between_init : (look : Location → Sight) (from to step len : ℕ) → shown look (in_range_from from to step len from) ≡ shown look (filter (is_in_range from to step) (count_up 0 len))
between_init look from to step len = ap (shown look) (sym (before_first from to step len))

pub between_next : (look : Location → Sight) (d : Document) (from to step i j : ℕ) (xs ys all : List Sight) → from ≤ i → i < to → to ≤ length_of d → 0 < step → (i - from) % step ≡ 0
    → (j ≡ i + step) ⊎ ((to ≤ j) × (to ≤ i + step)) → ys ≡ xs ++ map look (singles (present d (index i)))
    → xs ++ shown look (in_range_from from to step (length_of d) i) ≡ all → ys ++ shown look (in_range_from from to step (length_of d) j) ≡ all
between_next look d from to step i j xs ys all low high within some on next more kept =
    let len = length_of d in
    let here : in_range_from from to step len i ≡ i ∷ in_range_from from to step len j =
    next_in_range from to step i len low high within some on ∙ ap (λ (is : List ℕ). i ∷ is) (sym (same_from from to step len (i + step) j next)) in
    let there : present d (index i) ≡ index i ∷ [] = present-within d i (omega arith) in
    let gained : ys ≡ xs ++ (look (index i ∷ []) ∷ []) = more ∙ ap (λ (ss : List Step). xs ++ map look (singles ss)) there in
    ap (λ (ss : List Sight). ss ++ shown look (in_range_from from to step len j)) gained
    ∙ append_assoc xs (look (index i ∷ []) ∷ []) (shown look (in_range_from from to step len j))
    ∙ ap (λ (is : List ℕ). xs ++ shown look is) (sym here) ∙ kept

pub between_done : (look : Location → Sight) (from to step i len : ℕ) (xs all : List Sight) → to ≤ i → xs ++ shown look (in_range_from from to step len i) ≡ all → xs ≡ all
between_done look from to step i len xs all past kept =
    sym (append-nil xs) ∙ ap (λ (is : List ℕ). xs ++ shown look is) (sym (none_past_end from to step i len past)) ∙ kept

pub between_none : (look : Location → Sight) (from to len : ℕ) (xs : List Sight) → xs ≡ xs ++ shown look (filter (is_in_range from to 0) (count_up 0 len))
between_none look from to len xs = sym (append-nil xs) ∙ ap (λ (is : List ℕ). xs ++ shown look is) (sym (none_with_step_zero from to len))

pub still_on : (from step i : ℕ) → from ≤ i → (i - from) % step ≡ 0 → ((i + step) - from) % step ≡ 0
still_on from step i low on = grind arith

pub range_here : (d : Document) (from to : Option ℤ) (step : Option ℕ) (len first end by : ℕ) → len ≡ length_of d
    → first ≡ unwrap_or (option_map (λ m. abs_index m len) from) 0 → end ≡ unwrap_or (option_map (λ m. abs_index m len) to) len → by ≡ unwrap_or step 1
    → singles (map index (filter (is_in_range first end by) (count_up 0 (length_of d)))) ≡ single_steps (range from to step) d
range_here d from to step len first end by whole begins ends each = rw (begins, ends, each, whole) refl

-- ---- sums that may not fit

-- where the next index does not fit, both it and the sum are past the end
pub stops : (j sum most end : ℕ) → j ≡ min sum most → end ≤ most → (j ≡ sum) ⊎ ((end ≤ j) × (end ≤ sum))
stops j sum most end is fits = grind arith

-- so an index below the end is the sum
pub goes_on : (j sum end : ℕ) → (j ≡ sum) ⊎ ((end ≤ j) × (end ≤ sum)) → j < end → j ≡ sum
goes_on j sum end h below = grind arith
