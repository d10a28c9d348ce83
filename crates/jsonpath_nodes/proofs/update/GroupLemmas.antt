-- Locations in order, and those at the front that go through one step.
use Rattle.std.proofs.Common.{◌≡◌, ℕ, zero, suc, ◌+◌, ◌<◌, ◌≤◌, List, [], ◌∷◌, Bool, true, false, Ordering, Less, Equal, Greater, Some, None, cond, map, take, drop, length, get_or, refl, sym, ap, subst, ◌∙◌, arith}
use Rattle.std.proofs.lemmas.List.{drop-drop, drop_all, length-drop, length-map}
use Rattle.std.specs.List.Sorted.{IsStrictlySortedBy}
use Rattle.std.specs.Ordering.{is_eq, ordering_reverse, ordering_then}
use Rattle.jsonpath_nodes.specs.place.Location.{Step, name, index, Location, step_cmp, location_cmp}
use Rattle.jsonpath_nodes.specs.place.Order.{step_total}
use Rattle.jsonpath_nodes.specs.place.Owned.{owned_step, owned_steps}
use Rattle.jsonpath_nodes.specs.update.Topmost.{same_step, under}
use Rattle.jsonpath_nodes.specs.plan.Groups.{beyond, first_index, first_name, goes_through, group_len, leading}
use Rattle.jsonpath_nodes.specs.declared.place.location.LocStep.{LocStep}
use Rattle.jsonpath_nodes.proofs.update.SetLemmas.{same_back, same_itself, step_eq, step_congr}
use Rattle.jsonpath_nodes.proofs.update.TakenLemmas.{Before, under_index, under_name}

-- ---- one location

-- the step that it has at a depth
step_on : (n : ℕ) (us : List LocStep) (t : LocStep) → n < length us → t ≡ get_or us n t → drop n (owned_steps us) ≡ owned_step t ∷ owned_steps (drop (n + 1) us)
step_on n [] t lt at = absurd (omega arith)
step_on zero (u ∷ us) t lt at = ap (λ (v : LocStep). owned_step v ∷ owned_steps us) (sym at)
step_on (suc n) (u ∷ us) t lt at = grind (arith, step_on n us t (omega arith) at)

pub stands : (depth : ℕ) (ts : List LocStep) {t : LocStep} {x : Location} {s : Step} → owned_steps ts ≡ x → depth < length ts → t ≡ get_or ts depth t → owned_step t ≡ s → drop depth x ≡ s ∷ owned_steps (drop (depth + 1) ts)
stands depth ts {t = t} e lt at is = ap (drop depth) (sym e) ∙ step_on depth ts t lt at ∙ ap (λ (r : Step). r ∷ owned_steps (drop (depth + 1) ts)) is

ends_before : (n : ℕ) (us : List LocStep) → length us ≤ n → drop n (owned_steps us) ≡ []
ends_before n us le = drop_all n (owned_steps us) (omega (arith, length-map us owned_step))

pub goes_here : (ts : List LocStep) (depth : ℕ) (t : LocStep) (s : Step) → depth < length ts → t ≡ get_or ts depth t → is_eq (step_cmp (owned_step t) s) ≡ goes_through s (drop depth (owned_steps ts))
goes_here ts depth t s lt is = sym (ap (goes_through s) (step_on depth ts t lt is) ∙ step_eq (owned_step t) s)

pub goes_nowhere : (ts : List LocStep) (depth : ℕ) (s : Step) → length ts ≤ depth → false ≡ goes_through s (drop depth (owned_steps ts))
goes_nowhere ts depth s le = sym (ap (goes_through s) (ends_before depth ts le))

-- ---- steps

pub is_equal : (o : Ordering) → is_eq o ≡ true → o ≡ Equal
is_equal o e = grind arith

is_less : (o r : Ordering) → is_eq o ≡ false → ordering_then o r ≡ Less → o ≡ Less
is_less o r other e = grind arith

-- ---- seen from so many steps on

beyond-drop : (depth n : ℕ) (ls : List Location) → beyond depth (drop n ls) ≡ drop n (beyond depth ls)
beyond-drop depth zero ls = refl
beyond-drop depth (suc n) [] = refl
beyond-drop depth (suc n) (l ∷ ls) = beyond-drop depth n ls

beyond-take : (depth n : ℕ) (ls : List Location) → beyond depth (take n ls) ≡ take n (beyond depth ls)
beyond-take depth zero ls = refl
beyond-take depth (suc n) [] = refl
beyond-take depth (suc n) (l ∷ ls) = ap (λ (ms : List Location). drop depth l ∷ ms) (beyond-take depth n ls)

beyond-one : (depth : ℕ) (ls : List Location) → beyond (depth + 1) ls ≡ map (drop 1) (beyond depth ls)
beyond-one depth [] = refl
beyond-one depth (l ∷ ls) = ap (λ (m : Location). m ∷ beyond (depth + 1) ls) (sym (drop-drop 1 depth l)) ∙ ap (λ (ms : List Location). drop 1 (drop depth l) ∷ ms) (beyond-one depth ls)

pub beyond-zero : (ls : List Location) → beyond 0 ls ≡ ls
beyond-zero [] = refl
beyond-zero (l ∷ ls) = ap (λ (ms : List Location). l ∷ ms) (beyond-zero ls)

-- ---- what follows in order

pub sorted_drop : (n : ℕ) (ls : List Location) → IsStrictlySortedBy location_cmp ls → IsStrictlySortedBy location_cmp (drop n ls)
unfolding IsStrictlySortedBy
sorted_drop zero ls h = h
sorted_drop (suc n) [] h = h
sorted_drop (suc n) (l ∷ ls) h = sorted_drop n ls h.1

-- after a step, no location goes through an earlier one
past_none : (s u : Step) (m : Location) (ls : List Location) → step_cmp s u ≡ Less → Before (u ∷ m) ls → under s ls ≡ []
past_none s u m [] less h = refl
past_none s u m ([] ∷ ls) less h = past_none s u m ls less h.1
past_none s u m ((v ∷ n) ∷ ls) less h = rw other (past_none s u m ls less h.1)
  where
    at : (o : Ordering) → step_cmp u v ≡ o → ordering_then o (location_cmp m n) ≡ Less → step_cmp s v ≡ Less
    at Less e t = step_total.trans s u v less e
    at Equal e t =
        let back : step_cmp v u ≡ Equal = step_total.antisymm v u ∙ ap ordering_reverse e in
        step_total.antisymm s v ∙ ap ordering_reverse (step_total.congr v u s back ∙ step_total.antisymm u s ∙ ap ordering_reverse less)
    at Greater e t = absurd (cc)

    other : same_step v s ≡ false
    other = same_back v s ∙ step_eq s v ∙ ap is_eq (at (step_cmp u v) refl h.0)

-- the locations behind those that begin with a step do not go through it
pub none_after : (s t : Step) (l : Location) (ls : List Location) → same_step t s ≡ true → Before (t ∷ l) ls → IsStrictlySortedBy location_cmp ls → under s (drop (leading s ls) ls) ≡ []
unfolding IsStrictlySortedBy
none_after s t l [] same h up = refl
none_after s t l ([] ∷ ls) same h up = absurd (cc h.0)
none_after s t l ((u ∷ m) ∷ ls) same h up = by (same_step u s) refl (λ e. none_after s u m ls e up.0 up.1)
  where
    by : (b : Bool) → same_step u s ≡ b → (same_step u s ≡ true → under s (drop (leading s ls) ls) ≡ []) → under s (drop (cond b (1 + leading s ls) 0) ((u ∷ m) ∷ ls)) ≡ []
    by true e later =
        let one : 1 + leading s ls ≡ suc (leading s ls) = omega arith in
        rw one (later e)
    by false e later =
        let level : step_cmp t s ≡ Equal = is_equal (step_cmp t s) (sym (step_eq t s) ∙ same) in
        let apart : is_eq (step_cmp t u) ≡ false = ap is_eq (step_total.congr t s u level) ∙ sym (step_eq s u) ∙ same_back s u ∙ e in
        let less : step_cmp s u ≡ Less = sym (step_total.congr t s u level) ∙ is_less (step_cmp t u) (location_cmp l m) apart h.0 in
        rw e (past_none s u m ls less up.0)

-- they are as they were, seen through another step
pub under_other : (s r : Step) (ls : List Location) → same_step s r ≡ false → under r (drop (leading s ls) ls) ≡ under r ls
under_other s r ((u ∷ m) ∷ ls) other = by (same_step u s) refl (under_other s r ls other)
  where
    by : (b : Bool) → same_step u s ≡ b → under r (drop (leading s ls) ls) ≡ under r ls → under r (drop (cond b (1 + leading s ls) 0) ((u ∷ m) ∷ ls)) ≡ under r ((u ∷ m) ∷ ls)
    by b e later = grind (arith, step_congr)
under_other s r _ other = refl

-- those at the front are all that go through the step
under_front : (s : Step) (ls : List Location) → under s (drop (leading s ls) ls) ≡ [] → under s ls ≡ map (drop 1) (take (leading s ls) ls)
under_front s [] none = refl
under_front s ([] ∷ ls) none = none
under_front s ((u ∷ m) ∷ ls) none = by (same_step u s) refl none (under_front s ls)
  where
    by : (b : Bool) → same_step u s ≡ b → under s (drop (cond b (1 + leading s ls) 0) ((u ∷ m) ∷ ls)) ≡ [] → (under s (drop (leading s ls) ls) ≡ [] → under s ls ≡ map (drop 1) (take (leading s ls) ls)) → cond b (m ∷ under s ls) (under s ls) ≡ map (drop 1) (take (cond b (1 + leading s ls) 0) ((u ∷ m) ∷ ls))
    by b e h later = grind arith

-- ---- what goes through a step is in order too

before_under : (t s : Step) (l : Location) (ls : List Location) → same_step t s ≡ true → Before (t ∷ l) ls → Before l (under s ls)
before_under t s l ls e h = grind (arith, is_equal, under_index, under_name)

pub sorted_under : (s : Step) (ls : List Location) → IsStrictlySortedBy location_cmp ls → IsStrictlySortedBy location_cmp (under s ls)
unfolding IsStrictlySortedBy
sorted_under s [] h = tt
sorted_under s ([] ∷ ls) h = sorted_under s ls h.1
sorted_under s ((t ∷ l) ∷ ls) h = by (same_step t s) refl (sorted_under s ls h.1)
  where
    by : (b : Bool) → same_step t s ≡ b → IsStrictlySortedBy location_cmp (under s ls) → IsStrictlySortedBy location_cmp (cond b (l ∷ under s ls) (under s ls))
    by true e later = (before_under t s l ls e h.0, later)
    by false e later = later

-- ---- through the same step the same locations go

pub under_same : (s r : Step) (ls : List Location) → same_step s r ≡ true → under s ls ≡ under r ls
under_same s r [] e = refl
under_same s r ([] ∷ ls) e = under_same s r ls e
under_same s r ((t ∷ l) ∷ ls) e = grind (arith, same_back, step_congr, under_same s r ls e)

-- ---- how many steps are left, which falls from one level to the next

abbrev pub total : List Location → ℕ
total [] = 0
total (l ∷ ls) = length l + total ls

total-take : (n : ℕ) (ls : List Location) → total (take n ls) ≤ total ls
total-take zero ls = omega arith
total-take (suc n) [] = omega arith
total-take (suc n) (l ∷ ls) = omega (arith, total-take n ls)

total-drop : (n : ℕ) (ls : List Location) → total (drop n ls) ≤ total ls
total-drop zero ls = omega arith
total-drop (suc n) [] = omega arith
total-drop (suc n) (l ∷ ls) = omega (arith, total-drop n ls)

total-one : (ls : List Location) → total (map (drop 1) ls) ≤ total ls
total-one [] = omega arith
total-one ([] ∷ ls) = omega (arith, total-one ls)
total-one ((s ∷ l) ∷ ls) = omega (arith, total-one ls)

total-fewer : (n : ℕ) (s : Step) (l : Location) (ls : List Location) → total (l ∷ map (drop 1) (take n ls)) < total ((s ∷ l) ∷ ls)
total-fewer n s l ls = omega (arith, total-one (take n ls), total-take n ls)

-- ---- a slice of locations

-- what a location begins with
index_there : (n : ℕ) (l : Location) (i : ℕ) → Some i ≡ first_index n l → l ≡ index i ∷ drop 1 l
index_there n l i e = grind arith

pub no_index_there : (n : ℕ) (l : Location) (ls : List Location) → None ≡ first_index n l → (m : ℕ) → m < n → under (index m) (l ∷ ls) ≡ under (index m) ls
no_index_there n l ls e m lt = grind arith

name_there : (l : Location) (k : List ℕ) → Some k ≡ first_name l → l ≡ name k ∷ drop 1 l
name_there l k e = grind arith

pub no_name_there : (l : Location) (ls : List Location) → None ≡ first_name l → (q : List ℕ) → under (name q) (l ∷ ls) ≡ under (name q) ls
no_name_there l ls e q = grind arith

pub ends_fewer : (depth : ℕ) (rest others : List Location) (x : Location) → rest ≡ x ∷ others → total (beyond depth others) ≤ total (beyond depth rest)
ends_fewer depth rest others x e = rw e (omega arith)

pub no_more : (ls : List Location) → length ls ≡ 0 → ls ≡ []
no_more [] e = refl
no_more (l ∷ ls) e = absurd (omega arith)

-- the first of the locations goes through s, and g of them do so one after the other
pub record Front (depth g : ℕ) (rest others : List Location) (s : Step) (l : Location) : Type 0 where
  pub first : Location
  pub cases : rest ≡ first ∷ others
  pub head : beyond depth rest ≡ (s ∷ l) ∷ beyond depth others
  pub count : g ≡ group_len (beyond depth rest)

-- as the code finds it: the first one, and the step there
front_of : (depth : ℕ) {g : ℕ} {rest others : List Location} {x : Location} {s : Step} → rest ≡ x ∷ others → drop depth x ≡ s ∷ drop 1 (drop depth x) → g ≡ group_len (beyond depth rest)
    → Front depth g rest others s (drop 1 (drop depth x))
front_of depth {others = others} {x = x} e at count = record { first = x; cases = e; head = ap (beyond depth) e ∙ ap (λ (l : Location). l ∷ beyond depth others) at; count = count }

pub item_front : (depth n : ℕ) {g : ℕ} {rest others : List Location} {x : Location} {i : ℕ} → rest ≡ x ∷ others → Some i ≡ first_index n (drop depth x) → g ≡ group_len (beyond depth rest)
    → Front depth g rest others (index i) (drop 1 (drop depth x))
item_front depth n {x = x} {i = i} e at count = front_of depth e (index_there n (drop depth x) i at) count

pub member_front : (depth : ℕ) {g : ℕ} {rest others : List Location} {x : Location} {k : List ℕ} → rest ≡ x ∷ others → Some k ≡ first_name (drop depth x) → g ≡ group_len (beyond depth rest)
    → Front depth g rest others (name k) (drop 1 (drop depth x))
member_front depth {x = x} {k = k} e at count = front_of depth e (name_there (drop depth x) k at) count

-- the code counts those that go through the step of the first one
pub group_begins : (depth : ℕ) {ls others : List Location} {x l : Location} {s : Step} → ls ≡ x ∷ others → drop depth x ≡ s ∷ l → leading s (beyond depth ls) ≡ group_len (beyond depth ls)
group_begins depth {others = others} {s = s} e at = grind arith

-- whether a location goes on behind its step there
pub goes_on : (depth : ℕ) (ts : List LocStep) {x : Location} → owned_steps ts ≡ x → depth + 1 < length ts → 0 < length (drop 1 (drop depth x))
goes_on depth ts is more = rw (← is) (omega (arith, length-map ts owned_step, length-drop depth (owned_steps ts), length-drop 1 (drop depth (owned_steps ts))))

pub goes_further : (depth : ℕ) (ts : List LocStep) {x : Location} {k : List ℕ} → owned_steps ts ≡ x → Some k ≡ first_name (drop depth x) → (length ts ≡ depth + 1 → ⊥) → 0 < length (drop 1 (drop depth x))
goes_further depth ts {x} {k} is at apart =
    let one : length (drop depth x) ≡ suc (length (drop 1 (drop depth x))) = ap length (name_there (drop depth x) k at) in
    let all : length x ≡ length ts = ap length (sym is) ∙ length-map ts owned_step in
    omega (arith, length-drop depth x)

pub ends_there : (depth : ℕ) (ts : List LocStep) {x : Location} → owned_steps ts ≡ x → length ts ≤ depth + 1 → length (drop 1 (drop depth x)) ≡ 0
ends_there depth ts is none = rw (← is) (omega (arith, length-map ts owned_step, length-drop depth (owned_steps ts), length-drop 1 (drop depth (owned_steps ts))))

module _ {depth g : ℕ} {rest others : List Location} {s : Step} {l : Location} (f : Front depth g rest others s l) where
  pub one_more : g ≡ suc (leading s (beyond depth others))
  one_more = grind (arith, same_itself)

  -- those behind the group
  pub behind_group : (later : List Location) → later ≡ drop g rest → beyond depth later ≡ drop (leading s (beyond depth others)) (beyond depth others)
  behind_group later is = grind (arith, beyond-drop, one_more)

  pub behind_fewer : (later : List Location) → later ≡ drop g rest → total (beyond depth later) ≤ total (beyond depth rest)
  behind_fewer later is = rw (behind_group later is, f.head) (omega (arith, total-drop (leading s (beyond depth others)) (beyond depth others)))

  in_front : (here : List Location) → here ≡ take g rest → beyond (depth + 1) here ≡ l ∷ map (drop 1) (take (leading s (beyond depth others)) (beyond depth others))
  in_front here is = grind (arith, beyond-one, beyond-take, one_more)

  -- those in it, seen from one step further on
  pub in_group : (here : List Location) → here ≡ take g rest → IsStrictlySortedBy location_cmp (beyond depth rest) → beyond (depth + 1) here ≡ under s ((s ∷ l) ∷ beyond depth others)
  unfolding IsStrictlySortedBy
  in_group here is up =
      let sorted : IsStrictlySortedBy location_cmp ((s ∷ l) ∷ beyond depth others) = subst (IsStrictlySortedBy location_cmp) f.head up in
      let none : under s (drop (leading s (beyond depth others)) (beyond depth others)) ≡ [] = none_after s s l (beyond depth others) (same_itself s) sorted.0 sorted.1 in
      in_front here is
      ∙ ap (λ (ms : List Location). l ∷ ms) (sym (under_front s (beyond depth others) none))
      ∙ ap (λ (b : Bool). cond b (l ∷ under s (beyond depth others)) (under s (beyond depth others))) (sym (same_itself s))

  pub in_group_sorted : (here : List Location) → here ≡ take g rest → IsStrictlySortedBy location_cmp (beyond depth rest) → IsStrictlySortedBy location_cmp (beyond (depth + 1) here)
  in_group_sorted here is up =
      let sorted : IsStrictlySortedBy location_cmp ((s ∷ l) ∷ beyond depth others) = subst (IsStrictlySortedBy location_cmp) f.head up in
      subst (IsStrictlySortedBy location_cmp) (sym (in_group here is up)) (sorted_under s ((s ∷ l) ∷ beyond depth others) sorted)

  pub in_group_fewer : (here : List Location) → here ≡ take g rest → total (beyond (depth + 1) here) < total (beyond depth rest)
  in_group_fewer here is = rw (in_front here is, f.head) (total-fewer (leading s (beyond depth others)) s l (beyond depth others))
