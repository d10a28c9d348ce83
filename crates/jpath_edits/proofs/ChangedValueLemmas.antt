-- The items and members of a document, compared with those of a changed one, one after another.
use Rattle.std.proofs.Common.{◌≡◌, ℕ, zero, suc, ◌+◌, ◌<◌, ◌≤◌, List, [], ◌∷◌, ◌++◌, map, drop, length, get_or, Option, Some, None, option_map, is_some, Bool, true, false, not, ◌==◌, cond, Less, is_eq, refl, sym, ap, subst, ◌∙◌, arith}
use Rattle.std.proofs.lemmas.Cmp.{nat_list_cmp_total, tied_itself}
use Rattle.std.proofs.lemmas.List.{drop_all}
use Rattle.std.specs.Ordering.{ordering_reverse}
use Rattle.std.specs.List.{AllByRecursion}
use Rattle.std.specs.List.Sorted.{IsStrictlySortedBy}
use Rattle.jsonpath_nodes.specs.document.Document.{Document, array, object, Items, no_items, item, Members, no_members, member, depth, items_depth}
use Rattle.jsonpath_nodes.specs.document.Find.{get_item, items_len}
use Rattle.jsonpath_nodes.specs.place.Location.{Step, name, index, Location, names, step_cmp}
use Rattle.jsonpath_nodes.specs.place.Order.{NamesAscend}
use Rattle.jsonpath_nodes.specs.place.Owned.{owned_step, owned_steps}
use Rattle.jsonpath_nodes.specs.update.Topmost.{same_step, under, elsewhere, has_root, with_answer_at_topmost, items_with_answer, members_with_answer}
use Rattle.jsonpath_nodes.specs.update.Update.{item_if, member_if}
use Rattle.jsonpath_nodes.specs.declared.place.location.LocStep.{LocStep}
use Rattle.jpath_edits.specs.Changed.{below_root}

-- what stands in the place of a child: the answer, where the child's own location is one of these, which are as seen from the child
abbrev pub answer_for_child : Option Document → List Location → Document → Option Document
answer_for_child answer ls d = cond (has_root ls) answer (Some (with_answer_at_topmost answer ls d))

-- ---- where no location is, nothing changes

mutual
  pub nothing_changed : (a : Option Document) (d : Document) → with_answer_at_topmost a [] d ≡ d
  nothing_changed a (array ds) = ap array (no_item_changed a 0 ds)
  nothing_changed a (object ms) = ap object (no_member_changed a ms)
  nothing_changed a _ = refl

  no_item_changed : (a : Option Document) (n : ℕ) (ds : Items) → items_with_answer a [] n ds ≡ ds
  no_item_changed a n no_items = refl
  no_item_changed a n (item d ds) = ap (λ e. item e (items_with_answer a [] (suc n) ds)) (nothing_changed a d) ∙ ap (item d) (no_item_changed a (suc n) ds)

  no_member_changed : (a : Option Document) (ms : Members) → members_with_answer a [] ms ≡ ms
  no_member_changed a no_members = refl
  no_member_changed a (member k d ms) = ap (λ e. member k e (members_with_answer a [] ms)) (nothing_changed a d) ∙ ap (member k d) (no_member_changed a ms)

-- ---- locations that go through a step, before others

abbrev pub through : Step → List Location → List Location → List Location
through s gs ls = map (λ l. s ∷ l) gs ++ ls

same_itself : (s : Step) → same_step s s ≡ true
same_itself (name k) = ap is_eq (tied_itself nat_list_cmp_total k)
same_itself (index i) = grind arith

under_own : (s : Step) (gs ls : List Location) → under s (through s gs ls) ≡ gs ++ under s ls
under_own s [] ls = refl
under_own s (g ∷ gs) ls = rw (same_itself s) (ap (λ xs. g ∷ xs) (under_own s gs ls))

elsewhere_own : (s : Step) (gs ls : List Location) → elsewhere s (through s gs ls) ≡ elsewhere s ls
elsewhere_own s [] ls = refl
elsewhere_own s (g ∷ gs) ls = rw (same_itself s) (elsewhere_own s gs ls)

under_other : (s t : Step) (gs ls : List Location) → same_step s t ≡ false → under t (through s gs ls) ≡ under t ls
under_other s t [] ls h = refl
under_other s t (g ∷ gs) ls h = rw h (under_other s t gs ls h)

elsewhere_other : (s t : Step) (gs ls : List Location) → same_step s t ≡ false → elsewhere t (through s gs ls) ≡ through s gs (elsewhere t ls)
elsewhere_other s t [] ls h = refl
elsewhere_other s t (g ∷ gs) ls h = rw h (ap (λ xs. (s ∷ g) ∷ xs) (elsewhere_other s t gs ls h))

none_behind : (gs : List Location) → gs ++ [] ≡ gs
none_behind [] = refl
none_behind (g ∷ gs) = ap (λ xs. g ∷ xs) (none_behind gs)

-- ---- items

-- no location goes through an earlier index
abbrev pub NoneBefore : ℕ → List Location → Type 0
NoneBefore i ls = (j : ℕ) → j < i → under (index j) ls ≡ []

-- the items from an index on, and what they have become
abbrev pub ItemsLeft : Option Document → ℕ → List Location → Items → Items → Type 0
ItemsLeft a i ls ds others = NoneBefore i ls × (others ≡ items_with_answer a ls i ds)

abbrev pub items_from : ℕ → Items → Items
items_from zero ds = ds
items_from (suc n) no_items = no_items
items_from (suc n) (item d ds) = items_from n ds

other_index : (i j : ℕ) → (i ≡ j → ⊥) → same_step (index i) (index j) ≡ false
other_index i j apart = grind arith

items_past : (a : Option Document) (i j : ℕ) (gs ls : List Location) (ds : Items) → i < j → items_with_answer a (through (index i) gs ls) j ds ≡ items_with_answer a ls j ds
items_past a i j gs ls no_items lt = refl
items_past a i j gs ls (item d ds) lt =
    ap (λ us. item_if (answer_for_child a us d) (items_with_answer a (through (index i) gs ls) (suc j) ds)) (under_other (index i) (index j) gs ls (other_index i j (λ e. omega (arith, lt, e))))
    ∙ ap (item_if (answer_for_child a (under (index j) ls) d)) (items_past a i (suc j) gs ls ds (omega (arith, lt)))

pub item_back : (a : Option Document) (i : ℕ) (gs ls : List Location) (d : Document) (ds others later : Items) → ItemsLeft a (suc i) ls ds later → others ≡ item_if (answer_for_child a gs d) later
    → ItemsLeft a i (through (index i) gs ls) (item d ds) others
item_back a i gs ls d ds others later h is =
    let own : under (index i) (through (index i) gs ls) ≡ gs = under_own (index i) gs ls ∙ ap (λ xs. gs ++ xs) (h.0 i (omega arith)) ∙ none_behind gs in (
      λ j lt. under_other (index i) (index j) gs ls (other_index i j (λ e. omega (arith, lt, e))) ∙ h.0 j (omega (arith, lt)),
      is ∙ ap (item_if (answer_for_child a gs d)) (h.1 ∙ sym (items_past a i (suc i) gs ls ds (omega arith)))
          ∙ sym (ap (λ us. item_if (answer_for_child a us d) (items_with_answer a (through (index i) gs ls) (suc i) ds)) own),
    )

abbrev document_in : Document → Option Document → Document
document_in d None = d
document_in d (Some e) = e

pub items_at : (i : ℕ) (ds : Items) (d : Document) → get_item i ds ≡ Some d → items_from i ds ≡ item d (items_from (suc i) ds)
items_at i no_items d is = absurd (cc)
items_at zero (item e ds) d is = ap (λ x. item (document_in d x) ds) is
items_at (suc i) (item e ds) d is = items_at i ds d is

pub depth_at : (i : ℕ) (ds : Items) (d : Document) → get_item i ds ≡ Some d → depth d ≤ items_depth ds
depth_at i no_items d is = absurd (cc)
depth_at zero (item e ds) d is = let same : depth e ≡ depth d = ap (λ x. depth (document_in d x)) is in omega (arith, same)
depth_at (suc i) (item e ds) d is = omega (arith, depth_at i ds d is)

-- ---- members

-- the name is below those of the members
abbrev pub IsBelow : List ℕ → Members → Type 0
IsBelow k ms = AllByRecursion (λ t. step_cmp (name k) t ≡ Less) (names ms)

-- no location goes through a name below those of the members
abbrev pub NoneBelow : Members → List Location → Type 0
NoneBelow ms ls = (k : List ℕ) → IsBelow k ms → (under (name k) ls ≡ []) × (elsewhere (name k) ls ≡ ls)

-- the members that are left, and what they have become
abbrev pub MembersLeft : Option Document → List Location → Members → Members → Type 0
MembersLeft a ls ms others = NoneBelow ms ls × (others ≡ members_with_answer a ls ms)

pub first_below : (k : List ℕ) (d : Document) (ms : Members) → NamesAscend (member k d ms) → IsBelow k ms
unfolding IsStrictlySortedBy
first_below k d ms h = h.0

pub rest_ascend : (k : List ℕ) (d : Document) (ms : Members) → NamesAscend (member k d ms) → NamesAscend ms
unfolding IsStrictlySortedBy
rest_ascend k d ms h = h.1

other_name : (k q : List ℕ) → step_cmp (name q) (name k) ≡ Less → same_step (name k) (name q) ≡ false
other_name k q less = ap is_eq (nat_list_cmp_total.antisymm k q ∙ ap ordering_reverse less)

pub member_back : (a : Option Document) (k : List ℕ) (gs ls : List Location) (d : Document) (ms others later : Members) → IsBelow k ms → MembersLeft a ls ms later → others ≡ member_if k (answer_for_child a gs d) later
    → MembersLeft a (through (name k) gs ls) (member k d ms) others
member_back a k gs ls d ms others later below h is =
    let none = h.0 k below in
    let own : under (name k) (through (name k) gs ls) ≡ gs = under_own (name k) gs ls ∙ ap (λ xs. gs ++ xs) none.0 ∙ none_behind gs in
    let rest : elsewhere (name k) (through (name k) gs ls) ≡ ls = elsewhere_own (name k) gs ls ∙ none.1 in (
      λ q first. let other = other_name k q first.0 in (under_other (name k) (name q) gs ls other ∙ (h.0 q first.1).0, elsewhere_other (name k) (name q) gs ls other ∙ ap (through (name k) gs) (h.0 q first.1).1),
      is ∙ ap (member_if k (answer_for_child a gs d)) (h.1 ∙ sym (ap (λ us. members_with_answer a us ms) rest))
          ∙ sym (ap (λ us. member_if k (answer_for_child a us d) (members_with_answer a (elsewhere (name k) (through (name k) gs ls)) ms)) own),
    )

pub none_mapped : {A : Type 0} (f : A → Document) (o : Option A) → is_some o ≡ false → option_map f o ≡ None
none_mapped f None h = refl
none_mapped f (Some x) h = absurd (cc)

-- a child that is taken away leaves what is behind it
pub nothing_put : (a : Option Document) (gs : List Location) (d : Document) (ds : Items) → a ≡ None → has_root gs ≡ true → ds ≡ item_if (answer_for_child a gs d) ds
nothing_put a gs d ds none here = rw here (rw none refl)

pub no_member_put : (a : Option Document) (k : List ℕ) (gs : List Location) (d : Document) (ms : Members) → a ≡ None → has_root gs ≡ true → ms ≡ member_if k (answer_for_child a gs d) ms
no_member_put a k gs d ms none here = rw here (rw none refl)

pub item_step : (a : Option Document) (i : ℕ) (rest gs ls : List Location) (d : Document) (all others later : Items) → rest ≡ through (index i) gs ls → Some d ≡ get_item i all → others ≡ item_if (answer_for_child a gs d) later
    → ItemsLeft a (i + 1) ls (items_from (i + 1) all) later → ItemsLeft a i rest (items_from i all) others
item_step a i rest gs ls d all others later split at is h =
    let next : i + 1 ≡ suc i = omega arith in
    subst (λ us. ItemsLeft a i us (items_from i all) others) (sym split) (subst (λ ds. ItemsLeft a i (through (index i) gs ls) ds others) (sym (items_at i all d (sym at)))
    (item_back a i gs ls d (items_from (suc i) all) others later (subst (λ n. ItemsLeft a n ls (items_from n all) later) next h) is))

past_end : (i : ℕ) (ds : Items) → items_len ds ≤ i → items_from i ds ≡ no_items
past_end zero no_items le = refl
past_end (suc i) no_items le = refl
past_end zero (item d ds) le = absurd (omega arith)
past_end (suc i) (item d ds) le = past_end i ds (omega arith)

pub items_end : (a : Option Document) (i : ℕ) (rest : List Location) (all others : Items) → rest ≡ [] → items_len all ≤ i → others ≡ no_items → ItemsLeft a i rest (items_from i all) others
items_end a i rest all others empty end none =
    subst (λ us. ItemsLeft a i us (items_from i all) others) (sym empty) (subst (λ ds. ItemsLeft a i [] ds others) (sym (past_end i all end)) (λ j lt. refl, none))

pub member_step : (a : Option Document) (k : List ℕ) (rest gs ls : List Location) (d : Document) (left ms others later : Members) → rest ≡ through (name k) gs ls → left ≡ member k d ms → NamesAscend left
    → others ≡ member_if k (answer_for_child a gs d) later → MembersLeft a ls ms later → MembersLeft a rest left others
member_step a k rest gs ls d left ms others later split is ascend made h =
    let below : IsBelow k ms = first_below k d ms (subst NamesAscend is ascend) in
    subst (λ us. MembersLeft a us left others) (sym split) (subst (λ ns. MembersLeft a (through (name k) gs ls) ns others) (sym is) (member_back a k gs ls d ms others later below h made))

-- ---- the step at a depth

pub step_on : (n : ℕ) (us : List LocStep) (t : LocStep) → n < length us → t ≡ get_or us n t → drop n (owned_steps us) ≡ owned_step t ∷ drop (suc n) (owned_steps us)
step_on n [] t lt at = absurd (omega arith)
step_on zero (u ∷ us) t lt at = ap (λ (v : LocStep). owned_step v ∷ owned_steps us) (sym at)
step_on (suc n) (u ∷ us) t lt at = step_on n us t (omega arith) at

-- the locations as seen from so many steps on, one of which may end there
pub goes_on : (n : ℕ) (l : Location) (ls : List Location) → n < length l → has_root (drop n l ∷ ls) ≡ has_root ls
goes_on n [] ls lt = absurd (omega arith)
goes_on zero (s ∷ l) ls lt = refl
goes_on (suc n) (s ∷ l) ls lt = goes_on n l ls (omega arith)

pub ends_there : (n : ℕ) (l : Location) (ls : List Location) → length l ≤ n → has_root (drop n l ∷ ls) ≡ true
ends_there n l ls le = ap (λ (m : Location). has_root (m ∷ ls)) (drop_all n l le)

pub is_empty_list : {A : Type 0} (xs : List A) → (length xs == 0) ≡ true → xs ≡ []
is_empty_list [] h = refl
is_empty_list (x ∷ xs) h = grind arith

pub not_false : (b : Bool) → not b ≡ false → b ≡ true
not_false true h = refl
not_false false h = absurd (cc)

pub none_passed : (ls : List Location) → map (drop 0) ls ≡ ls
none_passed [] = refl
none_passed (l ∷ ls) = ap (λ ms. l ∷ ms) (none_passed ls)

-- ---- the root doesn't count

root_items : (a : Option Document) (ls : List Location) (n : ℕ) (ds : Items) → items_with_answer a ([] ∷ ls) n ds ≡ items_with_answer a ls n ds
root_items a ls n no_items = refl
root_items a ls n (item d ds) = ap (item_if (answer_for_child a (under (index n) ls) d)) (root_items a ls (suc n) ds)

root_members : (a : Option Document) (ls : List Location) (ms : Members) → members_with_answer a ([] ∷ ls) ms ≡ members_with_answer a ls ms
root_members a ls no_members = refl
root_members a ls (member k d ms) = ap (member_if k (answer_for_child a (under (name k) ls) d)) (root_members a (elsewhere (name k) ls) ms)

root_value : (a : Option Document) (ls : List Location) (d : Document) → with_answer_at_topmost a ls d ≡ with_answer_at_topmost a ([] ∷ ls) d
root_value a ls (array ds) = ap array (sym (root_items a ls 0 ds))
root_value a ls (object ms) = ap object (sym (root_members a ls ms))
root_value a ls _ = refl

pub below_root_alone : (a : Option Document) (ls : List Location) (d : Document) → with_answer_at_topmost a (below_root ls) d ≡ with_answer_at_topmost a ls d
below_root_alone a [] d = refl
below_root_alone a ([] ∷ ls) d = root_value a ls d
below_root_alone a ((s ∷ l) ∷ ls) d = refl
