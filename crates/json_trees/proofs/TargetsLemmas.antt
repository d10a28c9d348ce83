-- Locations in order, and those of them that begin with a step.
use Rattle.std.proofs.Common.{◌≡◌, ℕ, zero, suc, ◌+◌, ◌-◌, ◌<◌, ◌≤◌, List, [], ◌∷◌, ◌++◌, Bool, true, false, Ordering, Less, Equal, Greater, cond, get_or, length, map, take, drop, refl, sym, ap, subst, ◌∙◌, arith}
use Rattle.std.proofs.lemmas.Bool.{lt-leb}
use Rattle.std.proofs.lemmas.Bool.Decides.{nat_tests}
use Rattle.std.proofs.lemmas.List.{drop-drop, drop_more, length-drop, length-map, drop-map, map-append, take-map, take_more}
use Rattle.std.proofs.Math.ListN.{drop_of_length-le}
use lib.Dec.{leb}
use Rattle.std.specs.List.{AllByRecursion, prefix_len}
use Rattle.std.specs.List.Sorted.{IsStrictlySortedBy}
use Rattle.std.specs.Ordering.{is_eq, is_gt, is_lt, ordering_reverse, ordering_then}
use Rattle.jsonpath_nodes.specs.place.Location.{Step, Location, step_cmp, location_cmp}
use Rattle.jsonpath_nodes.specs.place.Order.{location_total, step_total}
use Rattle.jsonpath_nodes.specs.place.SpotPlace.{step_of}
use Rattle.jsonpath_nodes.specs.declared.place.spot.PathStep.{PathStep}
use Rattle.jsonpath_nodes.specs.update.Topmost.{has_root, same_step, under}
use Rattle.json_trees.specs.StepsFrom.{begins_behind, begins_with_step, first_cmp, steps_from}
use Rattle.json_trees.specs.declared.targets.StepList.{StepList}

-- ---- steps

same_is : (t s : Step) → same_step t s ≡ is_eq (step_cmp t s)
same_is t s = grind arith

is_equal : (o : Ordering) → is_eq o ≡ true → o ≡ Equal
is_equal o e = grind arith

less_back : (s t : Step) → step_cmp s t ≡ Greater → step_cmp t s ≡ Less
less_back s t e = step_total.antisymm t s ∙ ap ordering_reverse e

greater_back : (s t : Step) → step_cmp s t ≡ Less → step_cmp t s ≡ Greater
greater_back s t e = step_total.antisymm t s ∙ ap ordering_reverse e

-- ---- one location

-- one that begins with another step, or with none, does not matter
other : (s : Step) (l : Location) (ls : List Location) → is_eq (first_cmp l s) ≡ false → under s (l ∷ ls) ≡ under s ls
other s [] ls e = refl
other s (t ∷ l) ls e = rw (same_is t s ∙ e) refl

-- one that begins with the step comes first
through : (s : Step) (l : Location) (ls : List Location) → is_eq (first_cmp l s) ≡ true → under s (l ∷ ls) ≡ drop 1 l ∷ under s ls
through s [] ls e = absurd (cc)
through s (t ∷ l) ls e = rw (same_is t s ∙ e) refl

-- one below a step is below each later step
lower : (s r : Step) (l : Location) → first_cmp l s ≡ Less → step_cmp s r ≡ Less → first_cmp l r ≡ Less
lower s r [] e less = refl
lower s r (t ∷ l) e less = step_total.trans t s r e less

-- one at a step is below each later step
level : (s r : Step) (l : Location) → first_cmp l s ≡ Equal → step_cmp s r ≡ Less → first_cmp l r ≡ Less
level s r [] e less = absurd (cc)
level s r (t ∷ l) e less = step_total.congr t s r e ∙ less

-- ---- two locations in order

-- what comes after one behind a step is behind that, too
behind : (s : Step) (l m : Location) → location_cmp l m ≡ Less → first_cmp l s ≡ Greater → first_cmp m s ≡ Greater
behind s [] m less e = absurd (cc)
behind s (t ∷ l) [] less e = absurd (cc)
behind s (t ∷ l) (u ∷ m) less e = by (step_cmp t u) refl less
  where
    by : (o : Ordering) → step_cmp t u ≡ o → ordering_then o (location_cmp l m) ≡ Less → step_cmp u s ≡ Greater
    by Less tu h = greater_back s u (step_total.trans s t u (less_back t s e) tu)
    by Equal tu h = step_total.congr u t s (step_total.antisymm u t ∙ ap ordering_reverse tu) ∙ e
    by Greater tu h = absurd (cc)

-- what comes after one at a step is not below that
not_below : (s : Step) (l m : Location) → location_cmp l m ≡ Less → first_cmp l s ≡ Equal → first_cmp m s ≡ Less → ⊥
not_below s [] m less e f = cc
not_below s (t ∷ l) [] less e f = cc
not_below s (t ∷ l) (u ∷ m) less e f = by (step_cmp t u) refl less
  where
    tu : step_cmp t u ≡ Greater
    tu = step_total.congr t s u e ∙ greater_back u s f

    by : (o : Ordering) → step_cmp t u ≡ o → ordering_then o (location_cmp l m) ≡ Less → ⊥
    by Less is h = absurd (cc (tu, is))
    by Equal is h = absurd (cc (tu, is))
    by Greater is h = absurd (cc)

-- two at a step are in order behind it
in_order_behind : (s : Step) (l m : Location) → location_cmp l m ≡ Less → is_eq (first_cmp l s) ≡ true → is_eq (first_cmp m s) ≡ true → location_cmp (drop 1 l) (drop 1 m) ≡ Less
in_order_behind s [] m less e f = absurd (cc)
in_order_behind s (t ∷ l) [] less e f = absurd (cc)
in_order_behind s (t ∷ l) (u ∷ m) less e f = ap (λ (o : Ordering). ordering_then o (location_cmp l m)) (sym same) ∙ less
  where
    same : step_cmp t u ≡ Equal
    same = step_total.congr t s u (is_equal (step_cmp t s) e) ∙ step_total.antisymm s u ∙ ap ordering_reverse (is_equal (step_cmp u s) f)

-- ---- lists of locations

-- l comes before each of the locations ls
abbrev Before : Location → List Location → Type 0
Before l ls = AllByRecursion (λ m. location_cmp l m ≡ Less) ls

abbrev InOrder : List Location → Type 0
InOrder ls = IsStrictlySortedBy location_cmp ls

-- how many at the front begin with the step
abbrev front_len : Step → List Location → ℕ
front_len s ls = prefix_len (λ l. is_eq (first_cmp l s)) ls

-- if the first is behind the step, none goes through it
past : (s : Step) (l : Location) (ls : List Location) → first_cmp l s ≡ Greater → IsStrictlySortedBy location_cmp (l ∷ ls) → under s (l ∷ ls) ≡ []
unfolding IsStrictlySortedBy
past s l [] e h = other s l [] (ap is_eq e)
past s l (m ∷ ls) e h = other s l (m ∷ ls) (ap is_eq e) ∙ past s m ls (behind s l m h.0.0 e) h.1

is_greater : (o : Ordering) → is_gt o ≡ true → o ≡ Greater
is_greater o e = grind arith

-- if all begin behind the step, none goes through it
pub none_through : (s : Step) (ls : List Location) → begins_behind s ls ≡ true → IsStrictlySortedBy location_cmp ls → [] ≡ under s ls
none_through s [] e h = refl
none_through s (l ∷ ls) e h = sym (past s l ls (is_greater (first_cmp l s) e) h)

-- the first is not below the step
abbrev AtFront : Step → List Location → Type 0
AtFront s [] = Unit {0}
AtFront s (l ∷ ls) = first_cmp l s ≡ Less → ⊥

next_front : (s : Step) (l : Location) (ls : List Location) → Before l ls → first_cmp l s ≡ Equal → AtFront s ls
next_front s l [] h e = tt
next_front s l (m ∷ ls) h e = not_below s l m h.0 e

-- those at the front are all that go through the step
front_is : (s : Step) (ls : List Location) → InOrder ls → AtFront s ls → under s ls ≡ map (drop 1) (take (front_len s ls) ls)
unfolding IsStrictlySortedBy
front_is s [] h at = refl
front_is s (l ∷ ls) h at = by (first_cmp l s) refl (front_is s ls h.1)
  where
    by : (o : Ordering) → first_cmp l s ≡ o → (AtFront s ls → under s ls ≡ map (drop 1) (take (front_len s ls) ls)) → under s (l ∷ ls) ≡ map (drop 1) (take (cond (is_eq o) (1 + front_len s ls) 0) (l ∷ ls))
    by Less e later = absurd (at e)
    by Equal e later =
        let one : 1 + front_len s ls ≡ suc (front_len s ls) = omega arith in
        rw one (through s l ls (ap is_eq e) ∙ ap (λ (ms : List Location). drop 1 l ∷ ms) (later (next_front s l ls h.0 e)))
    by Greater e later = past s l ls e h

-- those behind them are all that go through a later step
front_left : (s r : Step) (ls : List Location) → step_cmp s r ≡ Less → under r (drop (front_len s ls) ls) ≡ under r ls
front_left s r [] less = refl
front_left s r (l ∷ ls) less = by (is_eq (first_cmp l s)) refl (front_left s r ls less)
  where
    by : (b : Bool) → is_eq (first_cmp l s) ≡ b → under r (drop (front_len s ls) ls) ≡ under r ls → under r (drop (cond b (1 + front_len s ls) 0) (l ∷ ls)) ≡ under r (l ∷ ls)
    by true e later =
        let one : 1 + front_len s ls ≡ suc (front_len s ls) = omega arith in
        rw one (later ∙ sym (other r l ls (ap is_eq (level s r l (is_equal (first_cmp l s) e) less))))
    by false e later = refl

sorted_drop : (n : ℕ) (ls : List Location) → IsStrictlySortedBy location_cmp ls → IsStrictlySortedBy location_cmp (drop n ls)
unfolding IsStrictlySortedBy
sorted_drop zero ls h = h
sorted_drop (suc n) [] h = h
sorted_drop (suc n) (l ∷ ls) h = sorted_drop n ls h.1

before_under : (s : Step) (l : Location) (ls : List Location) → is_eq (first_cmp l s) ≡ true → Before l ls → Before (drop 1 l) (under s ls)
before_under s l [] e h = tt
before_under s l (m ∷ ls) e h = by (is_eq (first_cmp m s)) refl (before_under s l ls e h.1)
  where
    by : (b : Bool) → is_eq (first_cmp m s) ≡ b → Before (drop 1 l) (under s ls) → Before (drop 1 l) (under s (m ∷ ls))
    by true f later = subst (Before (drop 1 l)) (sym (through s m ls f)) (in_order_behind s l m h.0 e f, later)
    by false f later = subst (Before (drop 1 l)) (sym (other s m ls f)) later

-- what goes through a step is in order too
sorted_under : (s : Step) (ls : List Location) → InOrder ls → InOrder (under s ls)
unfolding IsStrictlySortedBy
sorted_under s [] h = tt
sorted_under s (l ∷ ls) h = by (is_eq (first_cmp l s)) refl (sorted_under s ls h.1)
  where
    by : (b : Bool) → is_eq (first_cmp l s) ≡ b → InOrder (under s ls) → InOrder (under s (l ∷ ls))
    by true e later = subst InOrder (sym (through s l ls e)) (before_under s l ls e h.0, later)
    by false e later = subst InOrder (sym (other s l ls e)) later

-- a location that comes after another one is not the root
no_root : (l : Location) (ls : List Location) → Before l ls → has_root ls ≡ false
no_root l [] h = refl
no_root [] ([] ∷ ls) h = absurd (cc h.0)
no_root (s ∷ l) ([] ∷ ls) h = absurd (cc h.0)
no_root l ((t ∷ m) ∷ ls) h = no_root l ls h.1

-- a location that others follow is the root, or none is
root_of : (l : Location) (ls : List Location) → InOrder (l ∷ ls) → has_root (l ∷ ls) ≡ leb (length l) 0
unfolding IsStrictlySortedBy
root_of [] ls h = refl
root_of (t ∷ l) ls h = no_root (t ∷ l) ls h.0 ∙ sym (lt-leb (length (t ∷ l)) 0 (omega arith))

is_front : (s : Step) (ls : List Location) → begins_with_step s ls ≡ true → AtFront s ls
is_front s [] e = tt
is_front s (l ∷ ls) e = λ (less : first_cmp l s ≡ Less). absurd (cc (sym e ∙ ap is_eq less))

-- ---- paths

-- the step at an index is the first of those from there on
pub first_there : (n : ℕ) (steps : List PathStep) (t : PathStep) (s : Step) → n < length steps → t ≡ get_or steps n t → step_cmp (step_of t) s ≡ first_cmp (drop n (map step_of steps)) s
first_there n steps t s lt is =
    ap (λ (u : PathStep). step_cmp (step_of u) s) is
    ∙ sym (ap (λ (l : Location). first_cmp l s) (drop-map step_of n steps ∙ ap (map step_of) (drop_more steps n t lt)))

-- those from an index on
pub from_there : (depth n : ℕ) (paths : List StepList) (p : StepList) → n < length paths
    → drop n (steps_from depth paths) ≡ drop depth (map step_of (get_or paths n p).steps.now) ∷ drop (n + 1) (steps_from depth paths)
from_there depth n paths p lt =
    let seen : StepList → Location = λ q. drop depth (map step_of q.steps.now) in
    drop-map seen n paths
    ∙ ap (map seen) (drop_more paths n p lt)
    ∙ ap (λ (ls : List Location). seen (get_or paths n p) ∷ ls) (sym (drop-map seen (n + 1) paths))

-- a step further on
one_on : (depth : ℕ) (paths : List StepList) → steps_from (depth + 1) paths ≡ map (drop 1) (steps_from depth paths)
one_on depth [] = refl
one_on depth (p ∷ paths) = ap (λ (l : Location). l ∷ steps_from (depth + 1) paths) (sym (drop-drop 1 depth (map step_of p.steps.now))) ∙ ap (λ (ls : List Location). drop 1 (drop depth (map step_of p.steps.now)) ∷ ls) (one_on depth paths)

count_is : (depth : ℕ) (s : Step) (paths : List StepList) → prefix_len (λ p. is_eq (first_cmp (drop depth (map step_of p.steps.now)) s)) paths ≡ front_len s (steps_from depth paths)
count_is depth s [] = refl
count_is depth s (p ∷ paths) = ap (λ (n : ℕ). cond (is_eq (first_cmp (drop depth (map step_of p.steps.now)) s)) (1 + n) 0) (count_is depth s paths)

-- a list without those at its front
pub behind_is : (depth n : ℕ) (paths later : List StepList) → later ≡ drop n paths → steps_from depth later ≡ drop n (steps_from depth paths)
behind_is depth n paths later is = ap (steps_from depth) is ∙ sym (drop-map (λ (p : StepList). drop depth (map step_of p.steps.now)) n paths)

pub behind_sorted : (depth n : ℕ) (paths later : List StepList) → later ≡ drop n paths → IsStrictlySortedBy location_cmp (steps_from depth paths) → IsStrictlySortedBy location_cmp (steps_from depth later)
behind_sorted depth n paths later is sorted = subst (IsStrictlySortedBy location_cmp) (sym (behind_is depth n paths later is)) (sorted_drop n (steps_from depth paths) sorted)

-- n paths at the front begin with the step s
module _ (depth : ℕ) (s : Step) (paths : List StepList) {n : ℕ} (count : n ≡ prefix_len (λ p. is_eq (first_cmp (drop depth (map step_of p.steps.now)) s)) paths) where
  front_count : n ≡ front_len s (steps_from depth paths)
  front_count = count ∙ count_is depth s paths

  -- they are all that go through it
  pub front_under : IsStrictlySortedBy location_cmp (steps_from depth paths) → begins_with_step s (steps_from depth paths) ≡ true → (here : List StepList) → here ≡ take n paths
      → steps_from (depth + 1) here ≡ under s (steps_from depth paths)
  front_under sorted first here is =
      ap (steps_from (depth + 1)) is
      ∙ one_on depth (take n paths)
      ∙ ap (map (drop 1)) (sym (take-map (λ (p : StepList). drop depth (map step_of p.steps.now)) n paths) ∙ ap (λ (m : ℕ). take m (steps_from depth paths)) front_count)
      ∙ sym (front_is s (steps_from depth paths) sorted (is_front s (steps_from depth paths) first))

  pub front_sorted : IsStrictlySortedBy location_cmp (steps_from depth paths) → begins_with_step s (steps_from depth paths) ≡ true → (here : List StepList) → here ≡ take n paths
      → IsStrictlySortedBy location_cmp (steps_from (depth + 1) here)
  front_sorted sorted first here is = subst (IsStrictlySortedBy location_cmp) (sym (front_under sorted first here is)) (sorted_under s (steps_from depth paths) sorted)

  -- those behind them are all that go through a later step
  pub later_under : (later : List StepList) → later ≡ drop n paths → (r : Step) → step_cmp s r ≡ Less → under r (steps_from depth later) ≡ under r (steps_from depth paths)
  later_under later is r less =
      ap (under r) (behind_is depth n paths later is ∙ ap (λ (m : ℕ). drop m (steps_from depth paths)) front_count)
      ∙ front_left s r (steps_from depth paths) less

-- the value itself is among them only as the first
pub root_first : (depth : ℕ) (paths : List StepList) → IsStrictlySortedBy location_cmp (steps_from depth paths) → (p : StepList) (rest : List StepList) → paths ≡ p ∷ rest
    → has_root (steps_from depth paths) ≡ leb (length p.steps.now) depth
root_first depth paths sorted p rest is =
    ap (λ (ps : List StepList). has_root (steps_from depth ps)) is
    ∙ root_of (drop depth (map step_of p.steps.now)) (steps_from depth rest) (subst (λ (ps : List StepList). IsStrictlySortedBy location_cmp (steps_from depth ps)) is sorted)
    ∙ by (length (map step_of p.steps.now)) (length-map p.steps.now step_of) (length-drop depth (map step_of p.steps.now))
  where
    by : (n : ℕ) → n ≡ length p.steps.now → length (drop depth (map step_of p.steps.now)) ≡ n - depth → leb (length (drop depth (map step_of p.steps.now))) 0 ≡ leb (length p.steps.now) depth
    by n same left = grind (arith, nat_tests)

-- ---- those passed over

-- what goes through the step s, and through each later step, is the same in both lists
pub record Keeps (s : Step) (ls ms : List Location) : Type 0 where
  pub here : under s ms ≡ under s ls
  pub later : (r : Step) → step_cmp s r ≡ Less → under r ms ≡ under r ls

module _ (s : Step) (n : ℕ) {l : Location} (ls : List Location) (there : drop n ls ≡ l ∷ drop (n + 1) ls) where
  pub begins_there : first_cmp l s ≡ Equal → begins_with_step s (drop n ls) ≡ true
  begins_there e = ap (begins_with_step s) there ∙ ap is_eq e

  pub keeps_over : first_cmp l s ≡ Less → Keeps s ls (drop n ls) → Keeps s ls (drop (n + 1) ls)
  keeps_over e k = record {
    here = sym (ap (under s) there ∙ other s l (drop (n + 1) ls) (ap is_eq e)) ∙ k.here;
    later = λ r less. sym (ap (under r) there ∙ other r l (drop (n + 1) ls) (ap is_eq (lower s r l e less))) ∙ k.later r less;
  }

  pub none_there : first_cmp l s ≡ Greater → IsStrictlySortedBy location_cmp ls → Keeps s ls (drop n ls) → [] ≡ under s ls
  none_there e sorted k = sym (ap (under s) there ∙ past s l (drop (n + 1) ls) e (subst (IsStrictlySortedBy location_cmp) there (sorted_drop n ls sorted))) ∙ k.here

-- ---- lists of steps in order

pub is_less : (o : Ordering) → is_lt o ≡ true → o ≡ Less
is_less o e = grind arith

all_push : (P : Location → Type 0) (ls : List Location) (m : Location) → AllByRecursion P ls → P m → AllByRecursion P (ls ++ m ∷ [])
all_push P [] m h here = (here, tt)
all_push P (l ∷ ls) m h here = (h.0, all_push P ls m h.1 here)

all_last : (P : Location → Type 0) (ls : List Location) (m : Location) → AllByRecursion P (ls ++ m ∷ []) → P m
all_last P [] m h = h.0
all_last P (l ∷ ls) m h = all_last P ls m h.1

push_sorted : (ls : List Location) (l m : Location) → location_cmp l m ≡ Less → IsStrictlySortedBy location_cmp (ls ++ l ∷ []) → IsStrictlySortedBy location_cmp ((ls ++ l ∷ []) ++ m ∷ [])
unfolding IsStrictlySortedBy
push_sorted [] l m e h = ((e, tt), (tt, tt))
push_sorted (k ∷ ks) l m e h =
    let before = all_last (λ n. location_cmp k n ≡ Less) ks l h.0 in
    (all_push (λ n. location_cmp k n ≡ Less) (ks ++ l ∷ []) m h.0 (location_total.trans k l m before e), push_sorted ks l m e h.1)

-- one more behind the last of those before it
pub next_sorted : {A : Type 0} (f : A → Location) (xs : List A) (n i : ℕ) (d : A) → i ≡ n + 1 → i < length xs → location_cmp (f (get_or xs n d)) (f (get_or xs i d)) ≡ Less
    → IsStrictlySortedBy location_cmp (map f (take i xs)) → IsStrictlySortedBy location_cmp (map f (take (i + 1) xs))
next_sorted f xs n i d is within less h =
    let seen : (k : ℕ) → k < length xs → map f (take (k + 1) xs) ≡ map f (take k xs) ++ f (get_or xs k d) ∷ [] = λ k lt. ap (map f) (take_more xs k d lt) ∙ map-append f (take k xs) (get_or xs k d ∷ []) in
    let last : map f (take i xs) ≡ map f (take n xs) ++ f (get_or xs n d) ∷ [] = ap (λ (k : ℕ). map f (take k xs)) is ∙ seen n (omega arith) in
    subst (IsStrictlySortedBy location_cmp) (sym (seen i within ∙ ap (λ (ls : List Location). ls ++ f (get_or xs i d) ∷ []) last))
    (push_sorted (map f (take n xs)) (f (get_or xs n d)) (f (get_or xs i d)) less (subst (IsStrictlySortedBy location_cmp) last h))

pub first_sorted : {A : Type 0} (f : A → Location) (xs : List A) → IsStrictlySortedBy location_cmp (map f (take 1 xs))
unfolding IsStrictlySortedBy
first_sorted f [] = tt
first_sorted f (x ∷ xs) = (tt, tt)

-- each comes behind the one before it
pub next_less : {A : Type 0} (f : A → Location) (xs : List A) (n i : ℕ) (d : A) → i ≡ n + 1 → i < length xs → IsStrictlySortedBy location_cmp (map f xs) → location_cmp (f (get_or xs n d)) (f (get_or xs i d)) ≡ Less
unfolding IsStrictlySortedBy
next_less f [] n i d is within h = absurd (omega arith)
next_less f (x ∷ []) n i d is within h = absurd (omega arith)
next_less f (x ∷ y ∷ xs) zero i d is within h =
    let one : i ≡ 1 = omega arith in
    subst (λ (k : ℕ). location_cmp (f x) (f (get_or (x ∷ y ∷ xs) k d)) ≡ Less) (sym one) h.0.0
next_less f (x ∷ y ∷ xs) (suc n) i d is within h =
    let next : i ≡ suc (n + 1) = omega arith in
    subst (λ (k : ℕ). location_cmp (f (get_or (y ∷ xs) n d)) (f (get_or (x ∷ y ∷ xs) k d)) ≡ Less) (sym next) (next_less f (y ∷ xs) n (n + 1) d refl (omega arith) h.1)

-- a step before, at or behind the first of a location
step_behind : (s : Step) (l m : Location) → first_cmp m s ≡ Less → location_cmp (s ∷ l) m ≡ Greater
step_behind s l [] e = refl
step_behind s l (u ∷ m) e = ap (λ (o : Ordering). ordering_then o (location_cmp l m)) (greater_back u s e)

step_before : (s : Step) (l m : Location) → first_cmp m s ≡ Greater → location_cmp (s ∷ l) m ≡ Less
step_before s l [] e = absurd (cc)
step_before s l (u ∷ m) e = ap (λ (o : Ordering). ordering_then o (location_cmp l m)) (less_back u s e)

step_at : (s : Step) (l m : Location) → first_cmp m s ≡ Equal → location_cmp (s ∷ l) m ≡ location_cmp l (drop 1 m)
step_at s l [] e = absurd (cc)
step_at s l (u ∷ m) e = ap (λ (o : Ordering). ordering_then o (location_cmp l m)) (step_total.antisymm s u ∙ ap ordering_reverse e)

none_before : (l : Location) → 0 < length l → location_cmp [] l ≡ Less
none_before [] lt = absurd (omega arith)
none_before (t ∷ l) lt = refl

-- a list that has a step there is longer than that
pub reaches : (n : ℕ) (l : Location) (s : Step) → first_cmp (drop n l) s ≡ Equal → n < length l
reaches zero [] s e = absurd (cc)
reaches (suc n) [] s e = absurd (cc)
reaches zero (t ∷ l) s e = omega arith
reaches (suc n) (t ∷ l) s e = omega (arith, reaches n l s e)

-- the first so many steps of both lists are the same
module _ (left right : List PathStep) (i : ℕ) where
  next_left : (t : PathStep) → i < length left → drop i (map step_of left) ≡ step_of (get_or left i t) ∷ drop (i + 1) (map step_of left)
  next_left t lt =
      drop-map step_of i left
      ∙ ap (map step_of) (drop_more left i t lt)
      ∙ ap (λ (l : Location). step_of (get_or left i t) ∷ l) (sym (drop-map step_of (i + 1) left))

  module _ (t : PathStep) (lt : i < length left) (same : location_cmp (map step_of left) (map step_of right) ≡ location_cmp (drop i (map step_of left)) (drop i (map step_of right))) where
    here : location_cmp (map step_of left) (map step_of right) ≡ location_cmp (step_of (get_or left i t) ∷ drop (i + 1) (map step_of left)) (drop i (map step_of right))
    here = same ∙ ap (λ (l : Location). location_cmp l (drop i (map step_of right))) (next_left t lt)

    pub is_behind : first_cmp (drop i (map step_of right)) (step_of (get_or left i t)) ≡ Less → Greater ≡ location_cmp (map step_of left) (map step_of right)
    is_behind e = sym (here ∙ step_behind (step_of (get_or left i t)) (drop (i + 1) (map step_of left)) (drop i (map step_of right)) e)

    pub is_before : first_cmp (drop i (map step_of right)) (step_of (get_or left i t)) ≡ Greater → Less ≡ location_cmp (map step_of left) (map step_of right)
    is_before e = sym (here ∙ step_before (step_of (get_or left i t)) (drop (i + 1) (map step_of left)) (drop i (map step_of right)) e)

    pub goes_on : first_cmp (drop i (map step_of right)) (step_of (get_or left i t)) ≡ Equal → location_cmp (map step_of left) (map step_of right) ≡ location_cmp (drop (i + 1) (map step_of left)) (drop (i + 1) (map step_of right))
    goes_on e =
        here
        ∙ step_at (step_of (get_or left i t)) (drop (i + 1) (map step_of left)) (drop i (map step_of right)) e
        ∙ ap (location_cmp (drop (i + 1) (map step_of left))) (drop-drop 1 i (map step_of right))

  module _ (end : length left ≤ i) (same : location_cmp (map step_of left) (map step_of right) ≡ location_cmp (drop i (map step_of left)) (drop i (map step_of right))) where
    ended : location_cmp (map step_of left) (map step_of right) ≡ location_cmp [] (drop i (map step_of right))
    ended = same ∙ ap (λ (l : Location). location_cmp l (drop i (map step_of right))) (drop_of_length-le (map step_of left) (omega (arith, length-map left step_of)))

    pub is_shorter : i < length right → Less ≡ location_cmp (map step_of left) (map step_of right)
    is_shorter lt = sym (ended ∙ none_before (drop i (map step_of right)) (omega (arith, length-drop i (map step_of right), length-map right step_of)))

    pub is_same : length right ≤ i → Equal ≡ location_cmp (map step_of left) (map step_of right)
    is_same most = sym (ended ∙ ap (location_cmp []) (drop_of_length-le (map step_of right) (omega (arith, length-map right step_of))))
