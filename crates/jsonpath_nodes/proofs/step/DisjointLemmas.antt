-- Disjoint locations: they are apart, stay so by steps, and what is met below one is met below no other.
use Rattle.std.proofs.Common.{◌≡◌, List, [], ◌∷◌, ◌++◌, map, Bool, true, false, cond, not, ◌&&◌, ◌||◌, Some, refl, sym, ap, ap₂, ◌∙◌, arith, subst, append_assoc, append-nil, length}
use Rattle.std.specs.Prelude.{option_map, unwrap_or}
use Rattle.std.specs.List.{AllByRecursion, IsDistinct, list_any}
use Rattle.std.proofs.lemmas.List.Folds.{list_any-append}
use Rattle.jsonpath_nodes.specs.document.Document.{Document}
use Rattle.jsonpath_nodes.specs.place.Location.{Step, name, index, Location, at, below, flat, is_same}
use Rattle.jsonpath_nodes.specs.step.Candidates.{candidates_below, DisjointInOneDescent}
use Rattle.jsonpath_nodes.specs.step.Separate.{HasNoRepeat, are_indexes, goes_on_by_indexes, in_one_array, in_one_branch, IsApart, IsDisjoint, LevelIsDisjoint, DisjointStandsApart, StepStaysDisjoint, CandidatesStayDisjoint, BelowDisjointHasNoRepeat}
use Rattle.jsonpath_nodes.specs.step.Steps.{selected, from, from_each, each_once, each_once_after}
use Rattle.jsonpath_nodes.specs.update.Apart.{apart}
use Rattle.jsonpath_nodes.specs.update.Topmost.{same_step}
use Rattle.jsonpath_nodes.proofs.place.AscendsLemmas.{locations_below_root_ascend}
use Rattle.jsonpath_nodes.proofs.update.SetLemmas.{same_location, same_back}
use Rattle.jsonpath_nodes.proofs.step.RepeatLemmas.{each_once_after-append}
use Rattle.jsonpath_nodes.proofs.step.DistinctLemmas.{AllPairs, anything, all_of, pairs_map, pairs_rest, distinct_map, distinct_other}
use Rattle.jsonpath_nodes.proofs.step.SeparateLemmas.{pairs_from_each, distinct_from_each, distinct_step, distinct_behind, selects_distinct_at, either_false, is_other, other_is, none_before, once_keeps, apart_parts, flat_indexes, candidates_stand_apart, apart_has_no_repeat_flat}
use Rattle.jsonpath_nodes.proofs.step.ChildLemmas.{document_at}
use Rattle.jsonpath_nodes.proofs.step.OneDescentLemmas.{all_candidates, all_repeated, repeated_below, flat_alone}

-- ---- two locations of which none is the other's beginning

-- step by step
further : (b x : Bool) → not x ≡ false → not (not b || x) ≡ false
further true x h = h
further false x h = refl

further_on : (b x y : Bool) → (not x ≡ false → y ≡ false) → not (not b || x) ≡ false → (b && y) ≡ false
further_on b x y go h = grind arith

part_below : (l m a b : Location) → in_one_branch l m ≡ false → same_location (l ++ a) (m ++ b) ≡ false
part_below [] m a b h = cc
part_below (s ∷ l) [] a b h = cc
part_below (s ∷ l) (t ∷ m) a b h = grind (arith, further_on, same_back, part_below l m a b)

branch_below : (l m a b : Location) → in_one_branch l m ≡ false → in_one_branch (l ++ a) (m ++ b) ≡ false
branch_below [] m a b h = cc
branch_below (s ∷ l) [] a b h = cc
branch_below (s ∷ l) (t ∷ m) a b h = grind (arith, branch_below l m a b)

branch_on_indexes : (l m : Location) → in_one_branch l m ≡ false → goes_on_by_indexes l m ≡ false
branch_on_indexes [] m h = cc
branch_on_indexes (s ∷ l) [] h = refl
branch_on_indexes (s ∷ l) (t ∷ m) h = grind (arith, same_back, branch_on_indexes l m)

apart_turned : (l m : Location) → apart l m ≡ apart m l
apart_turned [] [] = refl
apart_turned [] (t ∷ m) = refl
apart_turned (s ∷ l) [] = refl
apart_turned (s ∷ l) (t ∷ m) = ap₂ (λ (x y : Bool). not x || y) (same_back t s) (apart_turned l m)

branch_turned : (l m : Location) → in_one_branch l m ≡ in_one_branch m l
branch_turned l m = ap not (apart_turned l m)

-- behind one location
same_front : (l a b : Location) → in_one_branch a b ≡ false → in_one_branch (l ++ a) (l ++ b) ≡ false
same_front [] a b h = h
same_front (s ∷ l) a b h = further (same_step s s) (apart (l ++ a) (l ++ b)) (same_front l a b h)

two_steps : (l : Location) (s t : Step) → same_step s t ≡ false → in_one_branch (l ++ s ∷ []) (l ++ t ∷ []) ≡ false
two_steps l s t h = same_front l (s ∷ []) (t ∷ []) (ap (λ (x : Bool). not (not x || false)) (same_back t s ∙ h))

-- those with as many steps, unless they are the same
level_branch : (l m : Location) → length l ≡ length m → same_location l m ≡ false → in_one_branch l m ≡ false
level_branch [] [] e h = cc
level_branch [] (t ∷ m) e h = absurd (omega arith)
level_branch (s ∷ l) [] e h = absurd (omega arith)
level_branch (s ∷ l) (t ∷ m) e h =
    let rest : length l ≡ length m = omega arith in
    ap (λ (x : Bool). not (not x || apart l m)) (same_back t s) ∙ by (same_step s t) (level_branch l m rest) h
  where
    by : (x : Bool) → (same_location l m ≡ false → in_one_branch l m ≡ false) → (x && same_location l m) ≡ false → not (not x || apart l m) ≡ false
    by true go k = go k
    by false go k = refl

-- those of indexes alone, unless one goes on from the other
indexes_branch : (a b : Location) → are_indexes a ≡ true → are_indexes b ≡ true → goes_on_by_indexes a b ≡ false → goes_on_by_indexes b a ≡ false → in_one_branch a b ≡ false
indexes_branch [] b p q h k = cc
indexes_branch (s ∷ a) [] p q h k = cc
indexes_branch (name n ∷ a) (t ∷ b) p q h k = cc
indexes_branch (index i ∷ a) (name n ∷ b) p q h k = cc
indexes_branch (index i ∷ a) (index j ∷ b) p q h k = grind (arith, indexes_branch a b p q)

-- ---- what is behind them

all_apart : (f : Location → Location → Bool) (l m : Location) (xs ys : List Location) → ((a b : Location) → f (l ++ a) (m ++ b) ≡ false) → AllPairs f (map (λ (x : Location). l ++ x) xs) (map (λ (x : Location). m ++ x) ys)
all_apart f l m xs ys part = pairs_map f (λ a. Unit {0}) (λ (x : Location). l ++ x) (λ (x : Location). m ++ x) xs ys (λ a b p q. part a b) (anything xs) (anything ys)

disjoint_pairs : (l m : Location) (xs ys : List Location) → in_one_branch l m ≡ false → AllPairs is_same (map (λ (x : Location). l ++ x) xs) (map (λ (x : Location). m ++ x) ys)
disjoint_pairs l m xs ys h = all_apart is_same l m xs ys (λ a b. other_is (l ++ a) (m ++ b) (part_below l m a b h))

-- ---- they are apart

pub disjoint_stands_apart : DisjointStandsApart
disjoint_stands_apart ls h =
    distinct_other in_one_branch in_one_array (λ (l : Location). Unit {0}) ls
    (λ l m p q other. either_false (goes_on_by_indexes l m) (goes_on_by_indexes m l) (branch_on_indexes l m other) (branch_on_indexes m l (sym (branch_turned l m) ∙ other))) (anything ls) h

pub level_stands_disjoint : LevelIsDisjoint
level_stands_disjoint n ls level once = distinct_other is_same in_one_branch (λ l. length l ≡ n) ls (λ l m p q other. level_branch l m (p ∙ sym q) (is_other l m other)) level once

-- ---- they stay disjoint

pub step_stands_disjoint : StepStaysDisjoint
step_stands_disjoint doc p ls once ordered h =
    distinct_step in_one_branch in_one_branch (λ (s : Step). Unit {0}) doc p ls (selects_distinct_at doc p ls once ordered) (λ d. anything (selected p d)) two_steps
    (λ l m s t other x y. branch_below l m (s ∷ []) (t ∷ []) other) h

flat_disjoint : (d : Document) → IsDisjoint (flat d)
flat_disjoint d =
    distinct_other in_one_array in_one_branch (λ a. are_indexes a ≡ true) (flat d)
    (λ a b p q other. let parts = apart_parts a b other in indexes_branch a b p q parts.0 parts.1) (flat_indexes d) (subst IsApart (flat_alone d) (candidates_stand_apart d ([] ∷ [])))

deeper_disjoint : (l : Location) (xs : List Location) → IsDisjoint xs → IsDisjoint (map (λ (x : Location). l ++ x) xs)
deeper_disjoint l xs h =
    distinct_map in_one_branch (λ (x : Location). l ++ x) xs (distinct_other in_one_branch (λ a b. in_one_branch (l ++ a) (l ++ b)) (λ a. Unit {0}) xs (λ a b p q. same_front l a b) (anything xs) h)

pub candidates_stand_disjoint : CandidatesStayDisjoint
candidates_stand_disjoint doc ls h =
    subst IsDisjoint (sym (apart_has_no_repeat_flat doc ls (disjoint_stands_apart ls h)))
    (distinct_from_each in_one_branch in_one_branch doc flat ls
    (all_of (λ l. (d : Document) → at doc l ≡ Some d → IsDisjoint (map (λ (x : Location). l ++ x) (flat d))) ls (λ l d is. deeper_disjoint l (flat d) (flat_disjoint d)))
    (λ l m d c other. all_apart in_one_branch l m (flat d) (flat c) (λ a b. branch_below l m a b other)) h)

pub below_disjoint_has_no_repeat : BelowDisjointHasNoRepeat
below_disjoint_has_no_repeat doc ls document h =
    distinct_from_each in_one_branch is_same doc below ls
    (all_of (λ l. (d : Document) → at doc l ≡ Some d → HasNoRepeat (map (λ (x : Location). l ++ x) (below d))) ls (λ l d is. distinct_behind l (below d) (locations_below_root_ascend d (document_at l doc d document is))))
    (λ l m d c. disjoint_pairs l m (below d) (below c)) h

-- ---- joined lists that have nothing in common

disjoint_before : (before given ls : List Location) → AllPairs is_same before ls → each_once_after (before ++ given) ls ≡ each_once_after given ls
disjoint_before before given [] h = refl
disjoint_before before given (l ∷ ls) h =
    ap (λ (b : Bool). cond b (each_once_after (before ++ given) ls) (l ∷ each_once_after ((before ++ given) ++ l ∷ []) ls))
    (list_any-append (is_same l) before given ∙ ap (λ (b : Bool). b || list_any (is_same l) given) (none_before l ls before h))
    ∙ by (list_any (is_same l) given) (disjoint_before before given ls rest) (disjoint_before before (given ++ l ∷ []) ls rest)
  where
    rest : AllPairs is_same before ls
    rest = pairs_rest is_same l before ls h

    by : (b : Bool) → each_once_after (before ++ given) ls ≡ each_once_after given ls → each_once_after (before ++ (given ++ l ∷ [])) ls ≡ each_once_after (given ++ l ∷ []) ls
        → cond b (each_once_after (before ++ given) ls) (l ∷ each_once_after ((before ++ given) ++ l ∷ []) ls) ≡ cond b (each_once_after given ls) (l ∷ each_once_after (given ++ l ∷ []) ls)
    by true known new = known
    by false known new = ap (λ (ms : List Location). l ∷ each_once_after ms ls) (append_assoc before given (l ∷ [])) ∙ ap (λ (ms : List Location). l ∷ ms) new

joined_once : (xs ys : List Location) → AllPairs is_same xs ys → each_once (xs ++ ys) ≡ each_once xs ++ each_once ys
joined_once xs ys h =
    each_once_after-append [] xs ys
    ∙ ap (λ (ms : List Location). each_once xs ++ ms)
    (ap (λ (ms : List Location). each_once_after ms ys) (sym (append-nil (each_once xs)))
    ∙ disjoint_before (each_once xs) [] ys (once_keeps (λ x. AllByRecursion (λ y. is_same x y ≡ false) ys) [] xs h))

each_by_one : (doc : Document) (f g : Document → List Location) (ls : List Location) → ((l : Location) → each_once (from doc f l) ≡ from doc g l) → IsDisjoint ls → each_once (from_each doc f ls) ≡ from_each doc g ls
unfolding IsDistinct
each_by_one doc f g [] one h = refl
each_by_one doc f g (l ∷ ls) one h =
    joined_once (from doc f l) (from_each doc f ls) (pairs_from_each in_one_branch is_same doc f l ls h.0 (λ m. disjoint_pairs l m (unwrap_or (option_map f (at doc l)) []) (unwrap_or (option_map f (at doc m)) [])))
    ∙ ap₂ (λ (x y : List Location). x ++ y) (one l) (each_by_one doc f g ls one h.1)

-- ---- the candidates below each

pub candidates_of_disjoint_in_descents : DisjointInOneDescent
candidates_of_disjoint_in_descents doc ls document h =
    all_repeated doc ls ∙ each_by_one doc all_candidates candidates_below ls (λ l. repeated_below doc l (λ d is. document_at l doc d document is)) h
