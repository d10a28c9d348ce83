-- Lists of locations with no repeats, and lists whose candidates hold none.
use Rattle.std.proofs.Common.{◌≡◌, ℕ, zero, suc, ◌+◌, ◌<◌, ◌≤◌, List, [], ◌∷◌, ◌++◌, map, Bool, true, false, cond, ◌&&◌, ◌||◌, Option, Some, None, refl, sym, ap, ap₂, ◌∙◌, arith, subst, add-suc, suc-add, add-zero, append-nil, append_assoc}
use Rattle.std.specs.Prelude.{filter, flat_map, option_map, option_and_then, unwrap_or, is_some, ℤ, pos, negsuc}
use Rattle.std.specs.Cmp.{eq_by_cmp_equiv}
use Rattle.std.specs.Cmp.Lexicographic.{slice_cmp}
use Rattle.std.specs.Int.Signed.{◌≤ℤ◌}
use Rattle.std.specs.List.{AllByRecursion, IsDistinct, list_any}
use Rattle.std.specs.List.Sorted.{IsStrictlySortedBy}
use Rattle.std.specs.Ordering.{eq_by_cmp, int_cmp, nat_cmp}
use Rattle.std.proofs.Math.Bool.{and-false}
use Rattle.std.proofs.lemmas.Bool.{and_parts, or_parts}
use Rattle.std.proofs.lemmas.Map.Keys.{IsDistinct-from_sorted}
use Rattle.jsonpath_nodes.specs.document.Document.{Document, array, object, Items, no_items, item, Members, no_members, member}
use Rattle.jsonpath_nodes.specs.document.Find.{get_item}
use Rattle.jsonpath_nodes.specs.place.Location.{Step, name, index, Location, at, child, children, indexes_from, names, below, flat, flat_items, is_same, step_cmp, location_cmp}
use Rattle.jsonpath_nodes.specs.place.Order.{IsOrderedDocument, location_total}
use Rattle.jsonpath_nodes.specs.step.Separate.{HasNoRepeat, are_indexes, goes_on_by_indexes, in_one_array, IsApart, SelectsNoneTwice, is_every, goes_by_names, HasNamesInOrder, NamesInOrderAt, ApartHasNoRepeatFlat, OneIsApart, ApartHasNoRepeat, NamesStandApart, ListsStandApart, IndexStandsApart, RangeStandsApart, StepStandsApart, CandidatesStandApart, StepHasNoRepeat, EveryHasNoRepeat, ChildHasNoRepeat, BelowHasNoRepeat, DescentStandsApart}
use Rattle.jsonpath_nodes.specs.step.Steps.{Plain, every, named, listed, nth, union, range, selected, present, nth_of, abs_index, length_of, is_in_range, count_up, single_steps, from, from_each, step, all_below, each_once_after, flattened}
use Rattle.jsonpath_nodes.specs.update.Topmost.{same_step}
use Rattle.jsonpath_nodes.proofs.place.AscendsLemmas.{flat_ascends, locations_below_root_ascend, sorted_deeper}
use Rattle.jsonpath_nodes.proofs.update.GroupLemmas.{is_equal}
use Rattle.jsonpath_nodes.proofs.step.DistinctLemmas.{AllPairs, anything, all_of, all_then, all_append, all_map, all_filter, pairs_nothing, pairs_append, pairs_rest, pairs_map, distinct_append, distinct_map, distinct_filter, distinct_other}
use Rattle.std.proofs.lemmas.Simd.{map-map}
use Rattle.jsonpath_nodes.proofs.step.ChildLemmas.{Kid, other_index, item_kids, member_kids, AreDistinct, items_distinct, members_distinct, document_at}
use Rattle.jsonpath_nodes.proofs.step.SingleLemmas.{past_end}
use Rattle.jsonpath_nodes.proofs.place.LeadLemmas.{at-append}
use Rattle.jsonpath_nodes.proofs.step.OnceLemmas.{step_same}
use Rattle.jsonpath_nodes.proofs.update.SetLemmas.{same_location, location_eq, step_eq, same_back}

-- ---- from each of some locations

pub pairs_from_each : (e f : Location → Location → Bool) (doc : Document) (g : Document → List Location) (l : Location) (ms : List Location) → AllByRecursion (λ m. e l m ≡ false) ms
    → ((m : Location) → e l m ≡ false → AllPairs f (from doc g l) (from doc g m)) → AllPairs f (from doc g l) (from_each doc g ms)
pairs_from_each e f doc g l [] h across = pairs_nothing f (from doc g l)
pairs_from_each e f doc g l (m ∷ ms) h across = pairs_append f (from doc g l) (from doc g m) (from_each doc g ms) (across m h.0) (pairs_from_each e f doc g l ms h.1 across)

-- where no value at a location gives two, and no two locations give any
pub distinct_from_each : (e f : Location → Location → Bool) (doc : Document) (g : Document → List Location) (ls : List Location)
    → AllByRecursion (λ l. (d : Document) → at doc l ≡ Some d → IsDistinct f (map (λ (x : Location). l ++ x) (g d))) ls
    → ((l m : Location) (d c : Document) → e l m ≡ false → AllPairs f (map (λ (x : Location). l ++ x) (g d)) (map (λ (x : Location). m ++ x) (g c))) → IsDistinct e ls → IsDistinct f (from_each doc g ls)
unfolding IsDistinct
distinct_from_each e f doc g [] own across h = tt
distinct_from_each e f doc g (l ∷ ls) own across h =
    distinct_append f (from doc g l) (from_each doc g ls) (one (at doc l) refl) (distinct_from_each e f doc g ls own.1 across h.1)
    (pairs_from_each e f doc g l ls h.0 (λ m other. two m other (at doc l) (at doc m)))
  where
    one : (o : Option Document) → at doc l ≡ o → IsDistinct f (map (λ (x : Location). l ++ x) (unwrap_or (option_map g o) []))
    one o is = grind arith

    two : (m : Location) → e l m ≡ false → (o r : Option Document)
        → AllPairs f (map (λ (x : Location). l ++ x) (unwrap_or (option_map g o) [])) (map (λ (x : Location). m ++ x) (unwrap_or (option_map g r) []))
    two m other None r = tt
    two m other (Some d) None = pairs_nothing f (map (λ (x : Location). l ++ x) (g d))
    two m other (Some d) (Some c) = across l m d c other

-- ---- tests step by step

both_false : (b x y : Bool) → (x ≡ false → y ≡ false) → (b && x) ≡ false → (b && y) ≡ false
both_false b x y go h = grind arith

each_false : (b c x z y : Bool) → b ≡ c → (x ≡ false → z ≡ false → y ≡ false) → (b && x) ≡ false → (c && z) ≡ false → (b && y) ≡ false
each_false b c x z y e go h k = grind arith

pub either_false : (x y : Bool) → x ≡ false → y ≡ false → (x || y) ≡ false
either_false x y p q = ap₂ (λ (a b : Bool). a || b) p q

pub is_other : (l m : Location) → is_same l m ≡ false → same_location l m ≡ false
is_other l m h = location_eq l m ∙ h

pub other_is : (l m : Location) → same_location l m ≡ false → is_same l m ≡ false
other_is l m h = sym (location_eq l m) ∙ h

pub same_turned : (l m : Location) → is_same l m ≡ is_same m l
same_turned l m = (eq_by_cmp_equiv location_total).symm l m

-- ---- one step on from two locations

no_room : (l : Location) (s : Step) → goes_on_by_indexes (l ++ s ∷ []) [] ≡ false
no_room [] s = refl
no_room (t ∷ l) s = refl

ends_in_name : (m : Location) (k : List ℕ) → are_indexes (m ++ name k ∷ []) ≡ false
ends_in_name (index i ∷ m) k = ends_in_name m k
ends_in_name _ k = refl

ends_in_index : (m : Location) (i : ℕ) → are_indexes (m ++ index i ∷ []) ≡ are_indexes m
ends_in_index (index j ∷ m) i = ends_in_index m i
ends_in_index _ i = refl

names_part : (l m : Location) (k j : List ℕ) → same_location l m ≡ false → goes_on_by_indexes (l ++ name k ∷ []) (m ++ name j ∷ []) ≡ false
names_part [] [] k j h = cc
names_part [] (t ∷ m) k j h = ap (λ (b : Bool). same_step (name k) t && b) (ends_in_name m j) ∙ and-false (same_step (name k) t)
names_part (s ∷ l) [] k j h = ap (λ (b : Bool). same_step s (name j) && b) (no_room l (name k)) ∙ and-false (same_step s (name j))
names_part (s ∷ l) (t ∷ m) k j h = both_false (same_step s t) (same_location l m) (goes_on_by_indexes (l ++ name k ∷ []) (m ++ name j ∷ [])) (names_part l m k j) h

indexes_part : (l m : Location) (i j : ℕ) → goes_on_by_indexes l m ≡ false → goes_on_by_indexes m l ≡ false → goes_on_by_indexes (l ++ index i ∷ []) (m ++ index j ∷ []) ≡ false
indexes_part [] [] i j h k = cc
indexes_part [] (name n ∷ m) i j h k = refl
indexes_part [] (index n ∷ m) i j h k = ap (λ (b : Bool). same_step (index i) (index n) && b) (ends_in_index m j ∙ h) ∙ and-false (same_step (index i) (index n))
indexes_part (s ∷ l) [] i j h k = ap (λ (b : Bool). same_step s (index j) && b) (no_room l (index i)) ∙ and-false (same_step s (index j))
indexes_part (s ∷ l) (t ∷ m) i j h k = grind (arith, same_back, indexes_part l m i j)

steps_part : (l m : Location) (s t : Step) → same_location l m ≡ false → same_location (l ++ s ∷ []) (m ++ t ∷ []) ≡ false
steps_part [] [] s t h = cc
steps_part [] (u ∷ []) s t h = and-false (same_step s u)
steps_part [] (u ∷ v ∷ m) s t h = and-false (same_step s u)
steps_part (u ∷ []) [] s t h = and-false (same_step u t)
steps_part (u ∷ v ∷ l) [] s t h = and-false (same_step u t)
steps_part (u ∷ l) (v ∷ m) s t h = both_false (same_step u v) (same_location l m) (same_location (l ++ s ∷ []) (m ++ t ∷ [])) (steps_part l m s t) h

-- two steps from one location
own_apart : (l : Location) (s t : Step) → same_step s t ≡ false → goes_on_by_indexes (l ++ s ∷ []) (l ++ t ∷ []) ≡ false
own_apart [] s t h = ap (λ (b : Bool). b && true) h
own_apart (u ∷ l) s t h = ap (λ (b : Bool). same_step u u && b) (own_apart l s t h) ∙ and-false (same_step u u)

own_other : (l : Location) (s t : Step) → same_step s t ≡ false → same_location (l ++ s ∷ []) (l ++ t ∷ []) ≡ false
own_other [] s t h = ap (λ (b : Bool). b && true) h
own_other (u ∷ l) s t h = ap (λ (b : Bool). same_step u u && b) (own_other l s t h) ∙ and-false (same_step u u)

-- ---- all that a step leads to

abbrev pub behind : Location → List Step → List Location
behind l ss = map (λ (m : Location). l ++ m) (map (λ (s : Step). s ∷ []) ss)

abbrev pub DistinctSteps : List Step → Type 0
DistinctSteps ss = IsDistinct same_step ss

behind_own : (f : Location → Location → Bool) (l : Location) (ss : List Step) → ((s t : Step) → same_step s t ≡ false → f (l ++ s ∷ []) (l ++ t ∷ []) ≡ false) → DistinctSteps ss → IsDistinct f (behind l ss)
behind_own f l ss go h =
    distinct_map f (λ (m : Location). l ++ m) (map (λ (s : Step). s ∷ []) ss) (distinct_map (λ (x y : Location). f (l ++ x) (l ++ y)) (λ (s : Step). s ∷ []) ss
    (distinct_other same_step (λ (s t : Step). f (l ++ s ∷ []) (l ++ t ∷ [])) (λ (s : Step). Unit {0}) ss (λ s t p q. go s t) (anything ss) h))

behind_pairs : (f : Location → Location → Bool) (P : Step → Type 0) (l m : Location) (ss ts : List Step) → ((s t : Step) → P s → P t → f (l ++ s ∷ []) (m ++ t ∷ []) ≡ false)
    → AllByRecursion P ss → AllByRecursion P ts → AllPairs f (behind l ss) (behind m ts)
behind_pairs f P l m ss ts go h k =
    rw (map-map (λ (x : Location). l ++ x) (λ (s : Step). s ∷ []) ss, map-map (λ (x : Location). m ++ x) (λ (s : Step). s ∷ []) ts)
    (pairs_map f P (λ (s : Step). l ++ s ∷ []) (λ (s : Step). m ++ s ∷ []) ss ts go h k)

-- a step selects no child of the value at the location twice
abbrev pub SelectsOnceAt : Document → Plain → Location → Type 0
SelectsOnceAt doc p l = (d : Document) → at doc l ≡ Some d → DistinctSteps (selected p d)

-- where a step leads from a list, for steps of one kind
pub distinct_step : (e f : Location → Location → Bool) (P : Step → Type 0) (doc : Document) (p : Plain) (ls : List Location)
    → AllByRecursion (SelectsOnceAt doc p) ls → ((d : Document) → AllByRecursion P (selected p d))
    → ((l : Location) (s t : Step) → same_step s t ≡ false → f (l ++ s ∷ []) (l ++ t ∷ []) ≡ false)
    → ((l m : Location) (s t : Step) → e l m ≡ false → P s → P t → f (l ++ s ∷ []) (m ++ t ∷ []) ≡ false)
    → IsDistinct e ls → IsDistinct f (step doc p ls)
distinct_step e f P doc p ls once kind own across h =
    distinct_from_each e f doc (single_steps p) ls
    (all_then (SelectsOnceAt doc p) (λ l. (d : Document) → at doc l ≡ Some d → IsDistinct f (behind l (selected p d))) ls (λ l selects d is. behind_own f l (selected p d) (own l) (selects d is)) once)
    (λ l m d c other. behind_pairs f P l m (selected p d) (selected p c) (λ s t. across l m s t other) (kind d) (kind c)) h

-- ---- what each step selects

abbrev IsName : Step → Type 0
IsName (name k) = Unit {0}
IsName (index i) = ⊥

abbrev IsIndex : Step → Type 0
IsIndex (name k) = ⊥
IsIndex (index i) = Unit {0}

-- only the steps that lead to a child
presents : {X : Type 0} (d : Document) (to : X → Step) (xs : List X) → flat_map (λ x. present d (to x)) xs ≡ filter (λ s. is_some (child s d)) (map to xs)
presents d to [] = refl
presents {X} d to (x ∷ xs) = grind (arith, presents d to xs)

present_each : {X : Type 0} (P : Step → Type 0) (d : Document) (to : X → Step) (xs : List X) → AllByRecursion (λ x. P (to x)) xs → AllByRecursion P (flat_map (λ x. present d (to x)) xs)
present_each P d to xs h = subst (AllByRecursion P) (sym (presents d to xs)) (all_filter P (λ s. is_some (child s d)) (map to xs) (all_map P to xs h))

present_distinct : {X : Type 0} (d : Document) (to : X → Step) (xs : List X) → IsDistinct (λ x y. same_step (to x) (to y)) xs → DistinctSteps (flat_map (λ x. present d (to x)) xs)
present_distinct d to xs h = subst DistinctSteps (sym (presents d to xs)) (distinct_filter same_step (λ s. is_some (child s d)) (map to xs) (distinct_map same_step to xs h))

present_kind : (P : Step → Type 0) (d : Document) (s : Step) → P s → AllByRecursion P (present d s)
present_kind P d s h = all_filter P (λ t. is_some (child t d)) (s ∷ []) (h, tt)

present_once : (d : Document) (s : Step) → DistinctSteps (present d s)
unfolding IsDistinct
present_once d s = distinct_filter same_step (λ t. is_some (child t d)) (s ∷ []) (tt, tt)

later_numbers : (i n k : ℕ) → i < n → AllByRecursion (λ j. same_step (index i) (index j) ≡ false) (count_up n k)
later_numbers i n zero lt = tt
later_numbers i n (suc k) lt = (other_index i n lt, later_numbers i (suc n) k (omega arith))

numbers_once : (n k : ℕ) → IsDistinct (λ i j. same_step (index i) (index j)) (count_up n k)
unfolding IsDistinct
numbers_once n zero = tt
numbers_once n (suc k) = (later_numbers n (suc n) k (omega arith), numbers_once (suc n) k)

-- the numbers that a range selects
abbrev numbers_of : Document → Option ℤ → Option ℤ → Option ℕ → ℕ → Bool
numbers_of d first to by =
    is_in_range (unwrap_or (option_map (λ n. abs_index n (length_of d)) first) 0) (unwrap_or (option_map (λ n. abs_index n (length_of d)) to) (length_of d)) (unwrap_or by 1)

range_once : (d : Document) (first to : Option ℤ) (by : Option ℕ) → DistinctSteps (selected (range first to by) d)
range_once d first to by =
    distinct_map same_step index (filter (numbers_of d first to by) (count_up 0 (length_of d)))
    (distinct_filter (λ i j. same_step (index i) (index j)) (numbers_of d first to by) (count_up 0 (length_of d)) (numbers_once 0 (length_of d)))

range_kind : (d : Document) (first to : Option ℤ) (by : Option ℕ) → AllByRecursion IsIndex (selected (range first to by) d)
range_kind d first to by =
    let numbers = filter (numbers_of d first to by) (count_up 0 (length_of d)) in
    all_map IsIndex index numbers (anything numbers)

list_once : (d : Document) (ks : List (List ℕ)) → IsDistinct (eq_by_cmp (slice_cmp nat_cmp)) ks → DistinctSteps (selected (listed ks) d)
list_once d ks h = present_distinct d name ks h

list_kind : (d : Document) (ks : List (List ℕ)) → AllByRecursion IsName (selected (listed ks) d)
list_kind d ks = present_each IsName d name ks (anything ks)

from_front : (d : Document) (n : ℕ) → nth_of d (pos n) ≡ present d (index n)
from_front d n = grind (arith, past_end)

-- an index that counts from the front
abbrev front : ℤ → ℕ
front (pos n) = n
front (negsuc n) = 0

numbers_differ : (n m : ℤ) → pos 0 ≤ℤ n → pos 0 ≤ℤ m → eq_by_cmp int_cmp n m ≡ false → same_step (index (front n)) (index (front m)) ≡ false
numbers_differ n m p q h = grind arith

all_from_front : (d : Document) (ns : List ℤ) → AllByRecursion (λ n. pos 0 ≤ℤ n) ns → flat_map (λ n. present d (index (front n))) ns ≡ selected (union ns) d
all_from_front d [] p = refl
all_from_front d (negsuc n ∷ ns) p = absurd (p.0.le)
all_from_front d (pos n ∷ ns) p = ap₂ (λ (ss ts : List Step). ss ++ ts) (sym (from_front d n)) (all_from_front d ns p.1)

union_once : (d : Document) (ns : List ℤ) → AllByRecursion (λ n. pos 0 ≤ℤ n) ns → IsDistinct (eq_by_cmp int_cmp) ns → DistinctSteps (selected (union ns) d)
union_once d ns p h =
    subst DistinctSteps (all_from_front d ns p)
    (present_distinct d (λ (n : ℤ). index (front n)) ns (distinct_other (eq_by_cmp int_cmp) (λ (n m : ℤ). same_step (index (front n)) (index (front m))) (λ (n : ℤ). pos 0 ≤ℤ n) ns numbers_differ p h))

union_kind : (d : Document) (ns : List ℤ) → AllByRecursion IsIndex (selected (union ns) d)
union_kind d ns = present_each IsIndex d (λ n. index (abs_index n (length_of d))) ns (anything ns)

kids_once : (ks : List Kid) → AreDistinct ks → DistinctSteps (map (λ (k : Kid). k.0) ks)
unfolding IsDistinct
kids_once [] h = tt
kids_once (k ∷ ks) h = (all_map (λ t. same_step k.0 t ≡ false) (λ (t : Kid). t.0) ks h.0, kids_once ks h.1)

index_steps : (n : ℕ) (ds : Items) → map (λ (k : Kid). k.0) (item_kids n ds) ≡ indexes_from n ds
index_steps n no_items = refl
index_steps n (item d ds) = ap (λ (ss : List Step). index n ∷ ss) (index_steps (suc n) ds)

name_steps : (ms : Members) → map (λ (k : Kid). k.0) (member_kids ms) ≡ names ms
name_steps no_members = refl
name_steps (member k d ms) = ap (λ (ss : List Step). name k ∷ ss) (name_steps ms)

children_once : (d : Document) → HasNamesInOrder d → DistinctSteps (children d)
unfolding IsDistinct
children_once (array ds) h = subst DistinctSteps (index_steps 0 ds) (kids_once (item_kids 0 ds) (items_distinct 0 ds))
children_once (object ms) h = subst DistinctSteps (name_steps ms) (kids_once (member_kids ms) (members_distinct ms h))
children_once _ h = tt

document_in_order : (d : Document) → IsOrderedDocument d → HasNamesInOrder d
document_in_order d h = grind arith

-- ---- the laws of steps

pub apart_parts : (l m : Location) → in_one_array l m ≡ false → (goes_on_by_indexes l m ≡ false) × (goes_on_by_indexes m l ≡ false)
apart_parts l m h = or_parts (goes_on_by_indexes l m) (goes_on_by_indexes m l) h

own_stand_apart : (l : Location) (s t : Step) → same_step s t ≡ false → in_one_array (l ++ s ∷ []) (l ++ t ∷ []) ≡ false
own_stand_apart l s t h = grind (arith, own_apart, same_back)

names_across : (l m : Location) (s t : Step) → is_same l m ≡ false → IsName s → IsName t → in_one_array (l ++ s ∷ []) (m ++ t ∷ []) ≡ false
names_across l m s t h p q = grind (arith, is_other, names_part, same_turned)

indexes_across : (l m : Location) (s t : Step) → in_one_array l m ≡ false → IsIndex s → IsIndex t → in_one_array (l ++ s ∷ []) (m ++ t ∷ []) ≡ false
indexes_across l m s t h p q = grind (arith, apart_parts, indexes_part)

-- the same location goes on by no index
same_goes_on : (l m : Location) → goes_on_by_indexes l m ≡ false → same_location l m ≡ false
same_goes_on [] [] h = cc
same_goes_on [] (t ∷ m) h = refl
same_goes_on (s ∷ l) [] h = refl
same_goes_on (s ∷ l) (t ∷ m) h = both_false (same_step s t) (goes_on_by_indexes l m) (same_location l m) (same_goes_on l m) h

pub apart_has_no_repeat : ApartHasNoRepeat
apart_has_no_repeat ls h =
    distinct_other in_one_array is_same (λ (l : Location). Unit {0}) ls (λ x y p q other. other_is x y (same_goes_on x y (apart_parts x y other).0)) (anything ls) h

-- a step that selects no child twice, in a value whose names ascend where that matters
pub selects_distinct : (p : Plain) (d : Document) → SelectsNoneTwice p → (is_every p ≡ true → HasNamesInOrder d) → DistinctSteps (selected p d)
selects_distinct every d once ordered = children_once d (ordered refl)
selects_distinct (named k) d once ordered = present_once d (name k)
selects_distinct (listed ks) d once ordered = list_once d ks once
selects_distinct (nth n) d once ordered = present_once d (index (abs_index n (length_of d)))
selects_distinct (union ns) d once ordered = union_once d ns once.0 once.1
selects_distinct (range first to by) d once ordered = range_once d first to by

-- so it is at each location
pub selects_distinct_at : (doc : Document) (p : Plain) (ls : List Location) → SelectsNoneTwice p → (is_every p ≡ true → NamesInOrderAt doc ls) → AllByRecursion (SelectsOnceAt doc p) ls
selects_distinct_at doc p [] once ordered = tt
selects_distinct_at doc p (l ∷ ls) once ordered = (λ d is. selects_distinct p d once (λ e. (ordered e).0 d is), selects_distinct_at doc p ls once (λ e. (ordered e).1))

no_star : (doc : Document) (p : Plain) (ls : List Location) → is_every p ≡ false → is_every p ≡ true → NamesInOrderAt doc ls
no_star doc p ls h k = cc

name_kind : (p : Plain) (d : Document) → goes_by_names p ≡ true → AllByRecursion IsName (selected p d)
name_kind p d h = grind (arith, list_kind)

names_are_not_all : (p : Plain) → goes_by_names p ≡ true → is_every p ≡ false
names_are_not_all p h = grind arith

pub lists_stand_apart : ListsStandApart
lists_stand_apart doc p ls by_names once h =
    distinct_step is_same in_one_array IsName doc p ls (selects_distinct_at doc p ls once (no_star doc p ls (names_are_not_all p by_names))) (λ d. name_kind p d by_names) own_stand_apart names_across h

pub names_stand_apart : NamesStandApart
names_stand_apart doc k ls h = lists_stand_apart doc (named k) ls refl tt h

by_indexes : (doc : Document) (p : Plain) (ls : List Location) → is_every p ≡ false → SelectsNoneTwice p → ((d : Document) → AllByRecursion IsIndex (selected p d)) → IsApart ls → IsApart (step doc p ls)
by_indexes doc p ls other once kind h = distinct_step in_one_array in_one_array IsIndex doc p ls (selects_distinct_at doc p ls once (no_star doc p ls other)) kind own_stand_apart indexes_across h

pub step_stands_apart : StepStandsApart
step_stands_apart doc every ls other once h = cc
step_stands_apart doc (named k) ls other once h = lists_stand_apart doc (named k) ls refl tt (apart_has_no_repeat ls h)
step_stands_apart doc (listed ks) ls other once h = lists_stand_apart doc (listed ks) ls refl once (apart_has_no_repeat ls h)
step_stands_apart doc (nth n) ls other once h = by_indexes doc (nth n) ls other once (λ d. present_kind IsIndex d (index (abs_index n (length_of d))) tt) h
step_stands_apart doc (union ns) ls other once h = by_indexes doc (union ns) ls other once (λ d. union_kind d ns) h
step_stands_apart doc (range first to by) ls other once h = by_indexes doc (range first to by) ls other once (λ d. range_kind d first to by) h

pub index_stands_apart : IndexStandsApart
index_stands_apart doc n ls h = step_stands_apart doc (nth n) ls refl tt h

pub range_stands_apart : RangeStandsApart
range_stands_apart doc first to by ls h = step_stands_apart doc (range first to by) ls refl tt h

no_repeat_by : (doc : Document) (p : Plain) (ls : List Location) → AllByRecursion (SelectsOnceAt doc p) ls → HasNoRepeat ls → HasNoRepeat (step doc p ls)
no_repeat_by doc p ls once h =
    distinct_step is_same is_same (λ (s : Step). Unit {0}) doc p ls once (λ d. anything (selected p d))
    (λ l s t other. other_is (l ++ s ∷ []) (l ++ t ∷ []) (own_other l s t other))
    (λ l m s t other p q. other_is (l ++ s ∷ []) (m ++ t ∷ []) (steps_part l m s t (is_other l m other))) h

pub every_has_no_repeat : EveryHasNoRepeat
every_has_no_repeat doc ls ordered h = no_repeat_by doc every ls (selects_distinct_at doc every ls tt (λ e. ordered)) h

pub child_has_no_repeat : ChildHasNoRepeat
child_has_no_repeat doc p ls other once h = no_repeat_by doc p ls (selects_distinct_at doc p ls once (no_star doc p ls other)) h

pub step_has_no_repeat : StepHasNoRepeat
step_has_no_repeat doc p ls document once h =
    no_repeat_by doc p ls (all_of (SelectsOnceAt doc p) ls (λ l d is. selects_distinct p d once (λ e. document_in_order d (document_at l doc d document is)))) h

pub one_is_apart : OneIsApart
unfolding IsDistinct
one_is_apart l = (tt, tt)

-- ---- below one location

pub distinct_behind : (l : Location) (ls : List Location) → IsStrictlySortedBy location_cmp ls → HasNoRepeat (map (λ (x : Location). l ++ x) ls)
distinct_behind l ls h = IsDistinct-from_sorted location_cmp (map (λ (x : Location). l ++ x) ls) (sorted_deeper l ls h)

pub below_has_no_repeat : BelowHasNoRepeat
unfolding IsDistinct
below_has_no_repeat doc l document =
    distinct_from_each (λ m n. true) is_same doc below (l ∷ []) ((λ d is. distinct_behind l (below d) (locations_below_root_ascend d (document_at l doc d document is))), tt)
    (λ m n d c other. absurd (cc)) (tt, tt)

-- ---- candidates of a list that is apart

mutual
  pub flat_indexes : (d : Document) → AllByRecursion (λ m. are_indexes m ≡ true) (flat d)
  flat_indexes (array ds) = flat_items_indexes 0 ds
  flat_indexes _ = (refl, tt)

  flat_items_indexes : (n : ℕ) (ds : Items) → AllByRecursion (λ m. are_indexes m ≡ true) (flat_items n ds)
  flat_items_indexes n no_items = tt
  flat_items_indexes n (item d ds) =
      all_append (λ m. are_indexes m ≡ true) (map (λ (l : Location). index n ∷ l) (flat d)) (flat_items (suc n) ds) (all_map (λ m. are_indexes m ≡ true) (λ (l : Location). index n ∷ l) (flat d) (flat_indexes d)) (flat_items_indexes (suc n) ds)

-- from the root by indexes alone, and by a location that has a name
off_the_array : (a m b : Location) → are_indexes a ≡ true → are_indexes m ≡ false → same_location a (m ++ b) ≡ false
off_the_array a [] b h k = cc
off_the_array [] (t ∷ m) b h k = refl
off_the_array (name n ∷ a) (t ∷ m) b h k = cc
off_the_array (index i ∷ a) (name n ∷ m) b h k = refl
off_the_array (index i ∷ a) (index j ∷ m) b h k = ap (λ (x : Bool). same_step (index i) (index j) && x) (off_the_array a m b h k) ∙ and-false (same_step (index i) (index j))

same_location_turned : (l m : Location) → same_location l m ≡ same_location m l
same_location_turned l m = location_eq l m ∙ same_turned l m ∙ sym (location_eq m l)

flat_part : (l m a b : Location) → are_indexes a ≡ true → are_indexes b ≡ true → goes_on_by_indexes l m ≡ false → goes_on_by_indexes m l ≡ false → same_location (l ++ a) (m ++ b) ≡ false
flat_part [] [] a b p q h k = cc
flat_part [] (t ∷ m) a b p q h k = off_the_array a (t ∷ m) b p h
flat_part (s ∷ l) [] a b p q h k = same_location_turned (s ∷ (l ++ a)) b ∙ off_the_array b (s ∷ l) a q k
flat_part (s ∷ l) (t ∷ m) a b p q h k = grind (arith, each_false, same_back, flat_part l m a b p q)

flat_distinct : (doc : Document) (ls : List Location) → IsApart ls → HasNoRepeat (from_each doc flat ls)
flat_distinct doc ls h =
    distinct_from_each in_one_array is_same doc flat ls (all_of (λ l. (d : Document) → at doc l ≡ Some d → HasNoRepeat (map (λ (x : Location). l ++ x) (flat d))) ls (λ l d is. distinct_behind l (flat d) (flat_ascends d)))
    (λ l m d c other.
    let parts = apart_parts l m other in
    pairs_map is_same (λ a. are_indexes a ≡ true) (λ (x : Location). l ++ x) (λ (x : Location). m ++ x) (flat d) (flat c) (λ a b p q. other_is (l ++ a) (m ++ b) (flat_part l m a b p q parts.0 parts.1)) (flat_indexes d) (flat_indexes c)) h

-- nothing is left out of a list without repeats
pub none_before : (l : Location) (ls before : List Location) → AllPairs is_same before (l ∷ ls) → list_any (is_same l) before ≡ false
none_before l ls [] h = refl
none_before l ls (b ∷ before) h = either_false (is_same l b) (list_any (is_same l) before) (same_turned l b ∙ h.0.0) (none_before l ls before h.1)

later_pairs : (l : Location) (ls before : List Location) → AllPairs is_same before (l ∷ ls) → AllByRecursion (λ m. is_same l m ≡ false) ls → AllPairs is_same (before ++ l ∷ []) ls
later_pairs l ls before h k = all_append (λ b. AllByRecursion (λ m. is_same b m ≡ false) ls) before (l ∷ []) (pairs_rest is_same l before ls h) (k, tt)

kept_whole : (before ls : List Location) → AllPairs is_same before ls → HasNoRepeat ls → each_once_after before ls ≡ ls
unfolding IsDistinct
kept_whole before [] p h = refl
kept_whole before (l ∷ ls) p h = grind (arith, none_before, kept_whole (before ++ l ∷ []) ls (later_pairs l ls before p h.0) h.1)

pub apart_has_no_repeat_flat : ApartHasNoRepeatFlat
apart_has_no_repeat_flat doc ls h = kept_whole [] (from_each doc flat ls) tt (flat_distinct doc ls h)

-- ---- candidates are apart

-- a value that is there and no array
abbrev no_array : Option Document → Bool
no_array None = false
no_array (Some (array ds)) = false
no_array (Some _) = true

no_item : (d : Document) (i : ℕ) (m : Location) → no_array (Some d) ≡ true → no_array (at d (index i ∷ m)) ≡ true → ⊥
no_item d i m h k = grind arith

-- of two such values none stands behind the other in an array
ends_there : (l m : Location) (d : Document) → no_array (at d l) ≡ true → no_array (at d m) ≡ true → goes_on_by_indexes l m ≡ true → same_location l m ≡ true
ends_there [] [] d p q h = refl
ends_there [] (name k ∷ m) d p q h = cc
ends_there [] (index i ∷ m) d p q h = absurd (no_item d i m p q)
ends_there (s ∷ l) [] d p q h = cc
ends_there (s ∷ l) (t ∷ m) d p q h =
    let parts = and_parts (same_step s t) (goes_on_by_indexes l m) h in
    let one : s ≡ t = step_same s t (is_equal (step_cmp s t) (sym (step_eq s t) ∙ parts.0)) in
    ap₂ (λ (x y : Bool). x && y) parts.0
    (by (child s d) (λ c. ends_there l m c) p (ap (λ (u : Step). no_array (option_and_then (λ c. at c m) (child u d))) one ∙ q) parts.1)
  where
    by : (o : Option Document) → ((c : Document) → no_array (at c l) ≡ true → no_array (at c m) ≡ true → goes_on_by_indexes l m ≡ true → same_location l m ≡ true)
        → no_array (option_and_then (λ c. at c l) o) ≡ true → no_array (option_and_then (λ c. at c m) o) ≡ true → goes_on_by_indexes l m ≡ true → same_location l m ≡ true
    by o go p q h = grind arith

pub opposite : (b c : Bool) → (b ≡ true → c ≡ true) → c ≡ false → b ≡ false
opposite b c go h = grind arith

candidates_part : (doc : Document) (l m : Location) → no_array (at doc l) ≡ true → no_array (at doc m) ≡ true → is_same l m ≡ false → in_one_array l m ≡ false
candidates_part doc l m p q h =
    either_false (goes_on_by_indexes l m) (goes_on_by_indexes m l)
    (opposite (goes_on_by_indexes l m) (same_location l m) (ends_there l m doc p q) (is_other l m h))
    (opposite (goes_on_by_indexes m l) (same_location m l) (ends_there m l doc q p) (is_other m l (same_turned m l ∙ h)))

from_item : (all : Items) (n : ℕ) (d : Document) (ls : List Location) → get_item n all ≡ Some d → AllByRecursion (λ m. no_array (at d m) ≡ true) ls
    → AllByRecursion (λ m. no_array (at (array all) m) ≡ true) (map (λ (l : Location). index n ∷ l) ls)
from_item all n d ls is h = grind (arith, all_map, all_then)

mutual
  flat_candidates : (d : Document) → AllByRecursion (λ m. no_array (at d m) ≡ true) (flat d)
  flat_candidates (array ds) = flat_items_candidates ds 0 ds (λ k. ap (λ i. get_item i ds) (omega arith))
  flat_candidates _ = (refl, tt)

  flat_items_candidates : (all : Items) (n : ℕ) (ds : Items) → ((k : ℕ) → get_item (n + k) all ≡ get_item k ds) → AllByRecursion (λ m. no_array (at (array all) m) ≡ true) (flat_items n ds)
  flat_items_candidates all n no_items h = tt
  flat_items_candidates all n (item d ds) h =
      all_append (λ m. no_array (at (array all) m) ≡ true) (map (λ (l : Location). index n ∷ l) (flat d)) (flat_items (suc n) ds)
      (from_item all n d (flat d) (rw (add-zero n) at (h 0)) (flat_candidates d)) (flat_items_candidates all (suc n) ds (λ k. rw (suc-add n k, ← add-suc n k) (h (suc k))))

all_candidates : (doc : Document) (ls : List Location) → AllByRecursion (λ m. no_array (at doc m) ≡ true) (from_each doc flat ls)
all_candidates doc [] = tt
all_candidates doc (l ∷ ls) = all_append (λ m. no_array (at doc m) ≡ true) (from doc flat l) (from_each doc flat ls) (by (at doc l) refl) (all_candidates doc ls)
  where
    by : (o : Option Document) → at doc l ≡ o → AllByRecursion (λ m. no_array (at doc m) ≡ true) (map (λ (m : Location). l ++ m) (unwrap_or (option_map flat o) []))
    by None is = tt
    by (Some d) is =
        all_map (λ m. no_array (at doc m) ≡ true) (λ (m : Location). l ++ m) (flat d)
        (all_then (λ m. no_array (at d m) ≡ true) (λ m. no_array (at doc (l ++ m)) ≡ true) (flat d) (λ m k. ap no_array (at-append l m doc ∙ ap (option_and_then (λ c. at c m)) is) ∙ k) (flat_candidates d))

-- each once: what is left of a list, and none of what was before
pub once_keeps : (P : Location → Type 0) (before ls : List Location) → AllByRecursion P ls → AllByRecursion P (each_once_after before ls)
once_keeps P before [] h = tt
once_keeps P before (l ∷ ls) h = grind (arith, once_keeps P before ls h.1, once_keeps P (before ++ l ∷ []) ls h.1)

none_among : (l : Location) (before : List Location) → list_any (is_same l) before ≡ false → AllPairs is_same before (l ∷ [])
none_among l [] h = tt
none_among l (b ∷ before) h =
    let parts = or_parts (is_same l b) (list_any (is_same l) before) h in
    ((same_turned b l ∙ parts.0, tt), none_among l before parts.1)

once_distinct : (before ls : List Location) → HasNoRepeat before → HasNoRepeat (before ++ each_once_after before ls)
unfolding IsDistinct
once_distinct before [] h = rw append-nil h
once_distinct before (l ∷ ls) h = by (list_any (is_same l) before) refl (once_distinct before ls h) (once_distinct (before ++ l ∷ []) ls)
  where
    by : (b : Bool) → list_any (is_same l) before ≡ b → HasNoRepeat (before ++ each_once_after before ls)
        → (HasNoRepeat (before ++ l ∷ []) → HasNoRepeat ((before ++ l ∷ []) ++ each_once_after (before ++ l ∷ []) ls))
        → HasNoRepeat (before ++ cond b (each_once_after before ls) (l ∷ each_once_after (before ++ l ∷ []) ls))
    by true is known new = known
    by false is known new =
        subst HasNoRepeat (append_assoc before (l ∷ []) (each_once_after (before ++ l ∷ []) ls)) (new (distinct_append is_same before (l ∷ []) h (tt, tt) (none_among l before is)))

pub candidates_stand_apart : CandidatesStandApart
unfolding IsDistinct
candidates_stand_apart doc ls =
    distinct_other is_same in_one_array (λ m. no_array (at doc m) ≡ true) (flattened doc ls) (candidates_part doc) (once_keeps (λ m. no_array (at doc m) ≡ true) [] (from_each doc flat ls) (all_candidates doc ls))
    (once_distinct [] (from_each doc flat ls) tt)

pub descent_stands_apart : DescentStandsApart
descent_stands_apart doc k l document = names_stand_apart doc k (all_below doc (l ∷ [])) (below_has_no_repeat doc l document)
