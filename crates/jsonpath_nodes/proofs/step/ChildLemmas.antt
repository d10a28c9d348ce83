-- The children of a value with the steps to them, and lists that go through them.
use Rattle.std.proofs.Common.{◌≡◌, ℕ, zero, suc, ◌+◌, ◌<◌, ◌≤◌, List, [], ◌∷◌, ◌++◌, map, Some, Option, false, Less, is_eq, refl, sym, ap, ◌∙◌, arith, add-suc, suc-add, add-zero, subst}
use Rattle.std.specs.Prelude.{option_and_then}
use Rattle.std.specs.Cmp.{nat_cmp_is}
use Rattle.std.specs.List.{AllByRecursion}
use Rattle.std.specs.List.Sorted.{IsStrictlySortedBy}
use Rattle.std.specs.Ordering.{match_ordering}
use Rattle.std.proofs.lemmas.Cmp.{nat_list_cmp_total, tied_itself}
use Rattle.jsonpath_nodes.specs.document.Document.{Document, array, object, Items, no_items, item, Members, no_members, member}
use Rattle.jsonpath_nodes.specs.document.Find.{get_item, get_member}
use Rattle.jsonpath_nodes.specs.place.Location.{Step, name, index, Location, at, child, names, indexes_from, below, below_items, below_members, flat, flat_items, step_cmp}
use Rattle.jsonpath_nodes.specs.step.Candidates.{flat_members}
use Rattle.jsonpath_nodes.specs.place.Order.{IsOrderedDocument, AreOrderedDocuments, HoldOrderedDocuments}
use Rattle.jsonpath_nodes.specs.update.Topmost.{same_step}
use Rattle.jsonpath_nodes.proofs.update.SetLemmas.{step_eq}

-- a child with the step to it
abbrev pub Kid : Type 0
Kid = Step × Document

abbrev pub item_kids : ℕ → Items → List Kid
item_kids n no_items = []
item_kids n (item d ds) = (index n, d) ∷ item_kids (suc n) ds

abbrev pub member_kids : Members → List Kid
member_kids no_members = []
member_kids (member k d ms) = (name k, d) ∷ member_kids ms

-- what f gives of each child, behind the step to it
abbrev pub through : (Document → List Location) → List Kid → List Location
through f [] = []
through f (k ∷ ks) = map (λ l. k.0 ∷ l) (f k.1) ++ through f ks

pub below_items-kids : (n : ℕ) (ds : Items) → below_items n ds ≡ through below (item_kids n ds)
below_items-kids n no_items = refl
below_items-kids n (item d ds) = ap (λ (ls : List Location). map (λ l. index n ∷ l) (below d) ++ ls) (below_items-kids (suc n) ds)

pub below_members-kids : (ms : Members) → below_members ms ≡ through below (member_kids ms)
below_members-kids no_members = refl
below_members-kids (member k d ms) = ap (λ (ls : List Location). map (λ l. name k ∷ l) (below d) ++ ls) (below_members-kids ms)

pub flat_items-kids : (n : ℕ) (ds : Items) → flat_items n ds ≡ through flat (item_kids n ds)
flat_items-kids n no_items = refl
flat_items-kids n (item d ds) = ap (λ (ls : List Location). map (λ l. index n ∷ l) (flat d) ++ ls) (flat_items-kids (suc n) ds)

pub flat_members-kids : (ms : Members) → flat_members ms ≡ through flat (member_kids ms)
flat_members-kids no_members = refl
flat_members-kids (member k d ms) = ap (λ (ls : List Location). map (λ l. name k ∷ l) (flat d) ++ ls) (flat_members-kids ms)

-- a child itself
abbrev pub itself : Document → List Location
itself d = [] ∷ []

pub indexes-kids : (n : ℕ) (ds : Items) → map (λ (s : Step). s ∷ []) (indexes_from n ds) ≡ through itself (item_kids n ds)
indexes-kids n no_items = refl
indexes-kids n (item d ds) = ap (λ (ls : List Location). (index n ∷ []) ∷ ls) (indexes-kids (suc n) ds)

pub names-kids : (ms : Members) → map (λ (s : Step). s ∷ []) (names ms) ≡ through itself (member_kids ms)
names-kids no_members = refl
names-kids (member k d ms) = ap (λ (ls : List Location). (name k ∷ []) ∷ ls) (names-kids ms)

-- each of the children is what the value has at its step
abbrev pub AreAt : Document → List Kid → Type 0
AreAt d ks = AllByRecursion (λ k. child k.0 d ≡ Some k.1) ks

-- no two steps are the same
abbrev pub AreDistinct : List Kid → Type 0
AreDistinct [] = Unit {0}
AreDistinct (k ∷ ks) = AllByRecursion (λ t. same_step k.0 t.0 ≡ false) ks × AreDistinct ks

-- ---- items

pub items_at : (all : Items) (n : ℕ) (ds : Items) → ((k : ℕ) → get_item (n + k) all ≡ get_item k ds) → AreAt (array all) (item_kids n ds)
items_at all n no_items h = tt
items_at all n (item d ds) h = (rw (add-zero n) at (h 0), items_at all (suc n) ds (λ k. rw (suc-add n k, ← add-suc n k) (h (suc k))))

pub all_items_at : (ds : Items) → AreAt (array ds) (item_kids 0 ds)
all_items_at ds = items_at ds 0 ds (λ k. ap (λ i. get_item i ds) (omega arith))

pub later_items : (P : Kid → Type 0) (n : ℕ) (ds : Items) → ((j : ℕ) (d : Document) → n ≤ j → P (index j, d)) → AllByRecursion P (item_kids n ds)
later_items P n no_items h = tt
later_items P n (item d ds) h = (h n d (omega arith), later_items P (suc n) ds (λ j c le. h j c (omega arith)))

pub other_index : (i j : ℕ) → i < j → same_step (index i) (index j) ≡ false
other_index i j lt = step_eq (index i) (index j) ∙ ap is_eq (sym (nat_cmp_is i j Less lt))

pub items_distinct : (n : ℕ) (ds : Items) → AreDistinct (item_kids n ds)
items_distinct n no_items = tt
items_distinct n (item d ds) = (later_items (λ t. same_step (index n) t.0 ≡ false) (suc n) ds (λ j c le. other_index n j (omega arith)), items_distinct (suc n) ds)

-- ---- members

at_later : (j : List ℕ) (d : Document) (all ms : Members) → AllByRecursion (λ t. step_cmp (name j) t ≡ Less) (names ms) → AreAt (object all) (member_kids ms) → AreAt (object (member j d all)) (member_kids ms)
at_later j d all no_members above h = tt
at_later j d all (member k c ms) above h = grind (arith, nat_list_cmp_total, at_later j d all ms above.1 h.1)

pub members_at : (ms : Members) → IsStrictlySortedBy step_cmp (names ms) → AreAt (object ms) (member_kids ms)
unfolding IsStrictlySortedBy
members_at no_members h = tt
members_at (member k d ms) h =
    let found : get_member k (member k d ms) ≡ Some d = ap (λ o. match_ordering o (get_member k ms) (Some d) (get_member k ms)) (tied_itself nat_list_cmp_total k) in
    (found, at_later k d ms ms h.0 (members_at ms h.1))

other_names : (s : Step) (ms : Members) → AllByRecursion (λ t. step_cmp s t ≡ Less) (names ms) → AllByRecursion (λ t. same_step s t.0 ≡ false) (member_kids ms)
other_names s no_members h = tt
other_names s (member k d ms) h = (step_eq s (name k) ∙ ap is_eq h.0, other_names s ms h.1)

pub members_distinct : (ms : Members) → IsStrictlySortedBy step_cmp (names ms) → AreDistinct (member_kids ms)
unfolding IsStrictlySortedBy
members_distinct no_members h = tt
members_distinct (member k d ms) h = (other_names (name k) ms h.0, members_distinct ms h.1)

-- ---- documents below documents

document_item : (i : ℕ) (ds : Items) (c : Document) → AreOrderedDocuments ds → get_item i ds ≡ Some c → IsOrderedDocument c
document_item i no_items c h e = cc
document_item zero (item d ds) c h e = let same : d ≡ c = cc in subst IsOrderedDocument same h.0
document_item (suc i) (item d ds) c h e = document_item i ds c h.1 e

document_member : (k : List ℕ) (ms : Members) (c : Document) → HoldOrderedDocuments ms → get_member k ms ≡ Some c → IsOrderedDocument c
document_member k no_members c h e = cc
document_member k (member j d ms) c h e = grind (arith, document_member k ms c h.1)

pub document_child : (s : Step) (d c : Document) → IsOrderedDocument d → child s d ≡ Some c → IsOrderedDocument c
document_child s d c h e = grind (arith, document_item, document_member)

pub document_at : (l : Location) (d c : Document) → IsOrderedDocument d → at d l ≡ Some c → IsOrderedDocument c
document_at [] d c h e = let same : d ≡ c = cc in subst IsOrderedDocument same h
document_at (s ∷ l) d c h e = by (child s d) refl (λ x docs. document_at l x c docs) e
  where
    by : (o : Option Document) → child s d ≡ o → ((x : Document) → IsOrderedDocument x → at x l ≡ Some c → IsOrderedDocument c) → option_and_then (λ x. at x l) o ≡ Some c → IsOrderedDocument c
    by o is go e = grind (arith, document_child)
