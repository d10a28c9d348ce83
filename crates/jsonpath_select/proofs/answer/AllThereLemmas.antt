-- Each location that a path selects holds a value.
use Rattle.std.proofs.Common.{◌≡◌, ◌≤◌, ◌<◌, ◌+◌, ℕ, zero, suc, Bool, true, false, List, [], ◌∷◌, ◌++◌, map, filter, filter_map, flat_map, Option, Some, None, option_and_then, cond, refl, sym, ap, ◌∙◌, arith, is_some, unwrap_or, option_map}
use Rattle.std.specs.List.{list_all}
use Rattle.std.proofs.lemmas.Bool.{and_from, and_parts}
use Rattle.std.proofs.lemmas.List.Elements.{All-filter}
use Rattle.std.proofs.lemmas.List.Folds.{list_all-append}
use Rattle.std.proofs.lemmas.List.Sums.{AllPass-from_list_all, list_all-from_AllPass}
use Rattle.jsonpath_nodes.specs.document.Document.{Document, array, object, Items, no_items, item, Members, no_members, member}
use Rattle.jsonpath_nodes.specs.place.Location.{Step, name, index, Location, child, at, flat, flat_items, children, names, indexes_from}
use Rattle.jsonpath_nodes.specs.document.Find.{items_len, get_item, get_member}
use Rattle.std.specs.Ordering.{match_ordering}
use Rattle.std.proofs.lemmas.Cmp.{nat_list_cmp_total, tied_itself}
use Rattle.jsonpath_nodes.specs.step.Steps.{Plain, every, named, listed, nth, union, range, selected, single_steps, step, all_below, present, nth_of, abs_index, length_of, count_up, from, from_each, each_once_after, flattened}
use Rattle.jsonpath_paths.specs.tree.Tree.{path, PathSteps, no_steps, step_then, Inner, plain, filter as with_filter}
use Rattle.jsonpath_select.specs.SelectionLaws.{AnswersEach}
use Rattle.jsonpath_select.specs.Parts.{plain_of}
use Rattle.jsonpath_select.specs.Meaning.{follow, inner_on, has_own_step, holds}

module _ {X : Type 0} (P : X → Bool) where
  all_both : (xs ys : List X) → list_all P xs ≡ true → list_all P ys ≡ true → list_all P (xs ++ ys) ≡ true
  all_both xs ys h i = list_all-append P xs ys ∙ and_from (list_all P xs) (list_all P ys) h i

  all_filter : (Q : X → Bool) (xs : List X) → list_all P xs ≡ true → list_all P (filter Q xs) ≡ true
  all_filter Q xs h = list_all-from_AllPass P (filter Q xs) (All-filter Q (λ x. P x ≡ true) xs (AllPass-from_list_all P xs h))

  all_flat_map : {Y : Type 0} (f : Y → List X) → ((y : Y) → list_all P (f y) ≡ true) → (ys : List Y) → list_all P (flat_map f ys) ≡ true
  all_flat_map f h [] = refl
  all_flat_map f h (y ∷ ys) = all_both (f y) (flat_map f ys) (h y) (all_flat_map f h ys)

is_there : Document → Location → Bool
is_there doc l = is_some (at doc l)

pub all_there : Document → List Location → Bool
all_there doc ls = list_all (is_there doc) ls

pub at_more : (l m : Location) (d : Document) → at d (l ++ m) ≡ option_and_then (λ c. at c m) (at d l)
at_more [] m d = refl
at_more (s ∷ l) m d = grind (arith, at_more l m)

behind_there : (doc d : Document) (l : Location) → at doc l ≡ Some d → (ms : List Location) → all_there d ms ≡ true → all_there doc (map (λ m. l ++ m) ms) ≡ true
unfolding all_there is_there
behind_there doc d l here [] h = refl
behind_there doc d l here (m ∷ ms) h =
    let both = and_parts (is_some (at d m)) (list_all (λ n. is_some (at d n)) ms) h in
    and_from (is_some (at doc (l ++ m))) _ (ap is_some (at_more l m doc ∙ ap (option_and_then (λ e. at e m)) here) ∙ both.0) (behind_there doc d l here ms both.1)

-- where f leads from a value, something stands
from_there : (doc : Document) (f : Document → List Location) → ((d : Document) (l : Location) → at doc l ≡ Some d → all_there d (f d) ≡ true) → (l : Location) → all_there doc (from doc f l) ≡ true
unfolding all_there is_there
from_there doc f h l = by_value (at doc l) refl
  where
    by_value : (o : Option Document) → at doc l ≡ o → all_there doc (map (λ m. l ++ m) (unwrap_or (option_map f o) [])) ≡ true
    by_value None e = refl
    by_value (Some d) e = behind_there doc d l e (f d) (h d l e)

from_each_there : (doc : Document) (f : Document → List Location) → ((d : Document) (l : Location) → at doc l ≡ Some d → all_there d (f d) ≡ true) → (ls : List Location) → all_there doc (from_each doc f ls) ≡ true
unfolding all_there
from_each_there doc f h ls = all_flat_map (is_there doc) (from doc f) (from_there doc f h) ls

pub once_there : (doc : Document) (before ls : List Location) → all_there doc ls ≡ true → all_there doc (each_once_after before ls) ≡ true
unfolding all_there
once_there doc before [] h = refl
once_there doc before (l ∷ ls) h = grind (arith, once_there doc before ls, once_there doc (before ++ l ∷ []) ls)

-- as many values as locations, in their order
pub values_each : (doc : Document) (ls : List Location) → all_there doc ls ≡ true → map (λ d. Some d) (filter_map (at doc) ls) ≡ map (at doc) ls
unfolding all_there is_there
values_each doc [] h = refl
values_each doc (l ∷ ls) h = grind (arith, values_each doc ls)

-- ---- one step

child_there : Document → Step → Bool
child_there d s = is_some (child s d)

singles_there : (d : Document) (ss : List Step) → list_all (child_there d) ss ≡ true → all_there d (map (λ s. s ∷ []) ss) ≡ true
unfolding all_there is_there child_there
singles_there d [] h = refl
singles_there d (s ∷ ss) h = grind (arith, singles_there d ss)

present_there : (d : Document) (s : Step) → list_all (child_there d) (present d s) ≡ true
unfolding child_there
present_there d s = grind arith

item_within : (i : ℕ) (ds : Items) → i < items_len ds → is_some (get_item i ds) ≡ true
item_within i no_items h = absurd (omega arith)
item_within zero (item d ds) h = refl
item_within (suc i) (item d ds) h = item_within i ds (omega arith)

-- the items from n on are those of the whole
abbrev Tail : Items → ℕ → Items → Type 0
Tail whole n ds = (i : ℕ) → get_item (n + i) whole ≡ get_item i ds

tail_first : (whole : Items) (n : ℕ) (d : Document) (ds : Items) → Tail whole n (item d ds) → get_item n whole ≡ Some d
tail_first whole n d ds tail = let same : n + 0 ≡ n = omega arith in ap (λ m. get_item m whole) (sym same) ∙ tail 0

tail_next : (whole : Items) (n : ℕ) (d : Document) (ds : Items) → Tail whole n (item d ds) → Tail whole (suc n) ds
tail_next whole n d ds tail i = let same : suc n + i ≡ n + suc i = omega arith in ap (λ m. get_item m whole) same ∙ tail (suc i)

indexes_there : (whole : Items) (n : ℕ) (ds : Items) → Tail whole n ds → list_all (child_there (array whole)) (indexes_from n ds) ≡ true
unfolding child_there
indexes_there whole n no_items tail = refl
indexes_there whole n (item d ds) tail = and_from _ _ (ap is_some (tail_first whole n d ds tail)) (indexes_there whole (suc n) ds (tail_next whole n d ds tail))

-- what the later members have, all of them have
later_member : (k j : List ℕ) (d : Document) (ms : Members) → is_some (get_member k ms) ≡ true → is_some (get_member k (member j d ms)) ≡ true
later_member k j d ms h = grind arith

names_there : (whole ms : Members) → ((k : List ℕ) → is_some (get_member k ms) ≡ true → is_some (get_member k whole) ≡ true) → list_all (child_there (object whole)) (names ms) ≡ true
unfolding child_there
names_there whole no_members h = refl
names_there whole (member k d ms) h =
    and_from _ _ (h k (ap (λ o. is_some (match_ordering o (get_member k ms) (Some d) (get_member k ms))) (tied_itself nat_list_cmp_total k)))
    (names_there whole ms (λ j e. h j (later_member j k d ms e)))

children_there : (d : Document) → list_all (child_there d) (children d) ≡ true
children_there (array ds) = indexes_there ds 0 ds (λ i. let same : 0 + i ≡ i = omega arith in ap (λ n. get_item n ds) same)
children_there (object ms) = names_there ms ms (λ k h. h)
children_there _ = refl

index_there : (d : Document) (i : ℕ) → i < length_of d → is_some (child (index i) d) ≡ true
index_there (array ds) i h = item_within i ds h
index_there _ i h = absurd (omega arith)

counted_there : (d : Document) (test : ℕ → Bool) (n k : ℕ) → n + k ≤ length_of d → list_all (child_there d) (map index (filter test (count_up n k))) ≡ true
unfolding child_there
counted_there d test n zero h = refl
counted_there d test n (suc k) h = grind (arith, counted_there d test (suc n) k (omega arith), index_there d n (omega arith))

selected_there : (p : Plain) (d : Document) → list_all (child_there d) (selected p d) ≡ true
selected_there every d = children_there d
selected_there (named k) d = present_there d (name k)
selected_there (listed ks) d = all_flat_map (child_there d) (λ k. present d (name k)) (λ k. present_there d (name k)) ks
selected_there (nth n) d = present_there d (index (abs_index n (length_of d)))
selected_there (union ns) d = all_flat_map (child_there d) (nth_of d) (λ n. present_there d (index (abs_index n (length_of d)))) ns
selected_there (range first last by) d = counted_there d _ 0 (length_of d) (omega arith)

-- ---- what lies below, and what is reached through arrays

mutual
  unfolding all_there is_there

  flat_there : (d : Document) → all_there d (flat d) ≡ true
  flat_there (array ds) = flat_items_there ds 0 ds (λ i. let same : 0 + i ≡ i = omega arith in ap (λ n. get_item n ds) same)
  flat_there _ = refl

  flat_items_there : (whole : Items) (n : ℕ) (ds : Items) → Tail whole n ds → all_there (array whole) (flat_items n ds) ≡ true
  flat_items_there whole n no_items tail = refl
  flat_items_there whole n (item d ds) tail =
      all_both (is_there (array whole)) (map (λ l. index n ∷ l) (flat d)) (flat_items (suc n) ds)
      (behind_there (array whole) d (index n ∷ []) (ap (option_and_then (λ c. Some c)) (tail_first whole n d ds tail)) (flat d) (flat_there d))
      (flat_items_there whole (suc n) ds (tail_next whole n d ds tail))

pub step_there : (doc : Document) (p : Plain) (ls : List Location) → all_there doc (step doc p ls) ≡ true
step_there doc p ls = from_each_there doc (single_steps p) (λ d l e. singles_there d (selected p d) (selected_there p d)) ls

pub flat_each_there : (doc : Document) (ls : List Location) → all_there doc (from_each doc flat ls) ≡ true
flat_each_there doc ls = from_each_there doc flat (λ d l e. flat_there d) ls

-- ---- a path

module _ (text : List ℕ) (doc : Document) where
  inner_there : (inner : Inner) (leaves : Bool) (ls : List Location) → all_there doc ls ≡ true → all_there doc (inner_on text doc inner leaves ls) ≡ true
  unfolding all_there
  inner_there (plain token) leaves ls h = step_there doc (plain_of text token) (cond leaves (all_below doc ls) ls)
  inner_there (with_filter f) leaves ls h = all_filter (is_there doc) (λ c. holds text doc f c) _ (by_kind (has_own_step f) leaves)
    where
      by_kind : (own leaves : Bool) → all_there doc (cond own (flattened doc (cond leaves (step doc every (all_below doc ls)) ls)) (cond leaves (step doc every (all_below doc ls)) ls)) ≡ true
      by_kind true leaves = once_there doc [] _ (flat_each_there doc _)
      by_kind false true = step_there doc every _
      by_kind false false = h

  follow_there : (ss : PathSteps) (ls : List Location) → all_there doc ls ≡ true → all_there doc (follow text doc ss ls) ≡ true
  follow_there no_steps ls h = h
  follow_there (step_then leaves bracket inner ss) ls h = follow_there ss _ (inner_there inner leaves ls h)

pub each_location_has_a_value : AnswersEach
unfolding all_there is_there
each_location_has_a_value text doc (path true ss) docs = values_each doc _ (follow_there text doc ss ([] ∷ []) refl)
each_location_has_a_value text doc (path false ss) docs = values_each doc _ (follow_there text doc ss ([] ∷ []) refl)
