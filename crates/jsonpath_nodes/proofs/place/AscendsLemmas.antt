-- What lies below the root of a document stands in document order, and so does what is flat there.
use Rattle.std.proofs.Common.{◌≡◌, ℕ, suc, ◌<◌, ◌≤◌, List, [], ◌∷◌, ◌++◌, map, Ordering, Less, Equal, refl, sym, ap, ◌∙◌, arith}
use Rattle.std.specs.Cmp.{nat_cmp_is}
use Rattle.std.specs.List.{AllByRecursion}
use Rattle.std.specs.List.Sorted.{IsStrictlySortedBy}
use Rattle.std.specs.Ordering.{ordering_then}
use Rattle.std.proofs.lemmas.Cmp.{nat_list_cmp_total, tied_itself}
use Rattle.jsonpath_nodes.specs.document.Document.{Document, array, object, Items, no_items, item, Members, no_members, member}
use Rattle.jsonpath_nodes.specs.place.Location.{Step, name, index, Location, names, below, below_items, below_members, flat, flat_items, step_cmp, location_cmp}
use Rattle.jsonpath_nodes.specs.place.Order.{IsOrderedDocument, AreOrderedDocuments, HoldOrderedDocuments}
use Rattle.jsonpath_nodes.proofs.step.DistinctLemmas.{all_of, all_then, all_append, all_map}

-- the location begins with a step that P holds of
abbrev pub Begins : (Step → Type 0) → Location → Type 0
Begins P [] = ⊥
Begins P (s ∷ l) = P s

-- the step comes before t
abbrev pub Precedes : Step → Step → Type 0
Precedes s t = step_cmp s t ≡ Less

pub all_begin : (P : Step → Type 0) (s : Step) (ls : List Location) → P s → AllByRecursion (Begins P) (map (λ (l : Location). s ∷ l) ls)
all_begin P s ls h = all_map (Begins P) (λ (l : Location). s ∷ l) ls (all_of (λ l. P s) ls (λ l. h))

pub step-tied : (s : Step) → step_cmp s s ≡ Equal
step-tied s = grind (arith, nat_list_cmp_total, tied_itself)

-- ---- below one child, and then below the later ones

deeper-Less : (s : Step) (l m : Location) → location_cmp l m ≡ Less → location_cmp (s ∷ l) (s ∷ m) ≡ Less
deeper-Less s l m h = ap (λ (o : Ordering). ordering_then o (location_cmp l m)) (step-tied s) ∙ h

all_deeper : (s : Step) (l : Location) (ls : List Location) → AllByRecursion (λ m. location_cmp l m ≡ Less) ls → AllByRecursion (λ m. location_cmp (s ∷ l) m ≡ Less) (map (λ (m : Location). s ∷ m) ls)
all_deeper s l ls h =
    all_map (λ m. location_cmp (s ∷ l) m ≡ Less) (λ (m : Location). s ∷ m) ls (all_then (λ m. location_cmp l m ≡ Less) (λ m. location_cmp (s ∷ l) (s ∷ m) ≡ Less) ls (deeper-Less s l) h)

all_later : (s : Step) (l : Location) (ls : List Location) → AllByRecursion (Begins (Precedes s)) ls → AllByRecursion (λ m. location_cmp (s ∷ l) m ≡ Less) ls
all_later s l [] h = tt
all_later s l ([] ∷ ls) h = absurd h.0
all_later s l ((t ∷ m) ∷ ls) h = (ap (λ (o : Ordering). ordering_then o (location_cmp l m)) h.0, all_later s l ls h.1)

pub sorted_children : (s : Step) (ls ys : List Location) → IsStrictlySortedBy location_cmp ls → IsStrictlySortedBy location_cmp ys → AllByRecursion (Begins (Precedes s)) ys
    → IsStrictlySortedBy location_cmp (map (λ (l : Location). s ∷ l) ls ++ ys)
unfolding IsStrictlySortedBy
sorted_children s [] ys h k later = k
sorted_children s (l ∷ ls) ys h k later =
    (all_append (λ m. location_cmp (s ∷ l) m ≡ Less) (map (λ (m : Location). s ∷ m) ls) ys (all_deeper s l ls h.0) (all_later s l ys later), sorted_children s ls ys h.1 k later)

sorted_after_root : (ls : List Location) → AllByRecursion (Begins (λ s. Unit {0})) ls → IsStrictlySortedBy location_cmp ls → IsStrictlySortedBy location_cmp ([] ∷ ls)
unfolding IsStrictlySortedBy
sorted_after_root ls later h = (root_first ls later, h)
  where
    root_first : (ms : List Location) → AllByRecursion (Begins (λ s. Unit {0})) ms → AllByRecursion (λ m. location_cmp [] m ≡ Less) ms
    root_first [] k = tt
    root_first ([] ∷ ms) k = absurd k.0
    root_first ((s ∷ m) ∷ ms) k = (refl, root_first ms k.1)

-- ---- how what lies below later children begins

begin_items : (P : Step → Type 0) (n : ℕ) (ds : Items) → ((j : ℕ) → n ≤ j → P (index j)) → AllByRecursion (Begins P) (below_items n ds)
begin_items P n no_items h = tt
begin_items P n (item d ds) h =
    all_append (Begins P) (map (λ (l : Location). index n ∷ l) (below d)) (below_items (suc n) ds) (all_begin P (index n) (below d) (h n (omega arith))) (begin_items P (suc n) ds (λ j le. h j (omega arith)))

begin_members : (P : Step → Type 0) (ms : Members) → AllByRecursion P (names ms) → AllByRecursion (Begins P) (below_members ms)
begin_members P no_members h = tt
begin_members P (member k d ms) h =
    all_append (Begins P) (map (λ (l : Location). name k ∷ l) (below d)) (below_members ms) (all_begin P (name k) (below d) h.0) (begin_members P ms h.1)

some_step : (ms : Members) → AllByRecursion (λ s. Unit {0}) (names ms)
some_step no_members = tt
some_step (member k d ms) = (tt, some_step ms)

-- ---- the whole document

mutual
  unfolding IsStrictlySortedBy

  pub locations_below_root_ascend : (d : Document) → IsOrderedDocument d → IsStrictlySortedBy location_cmp (below d)
  locations_below_root_ascend (array ds) h = sorted_after_root (below_items 0 ds) (begin_items (λ s. Unit {0}) 0 ds (λ j le. tt)) (items_ascend 0 ds h)
  locations_below_root_ascend (object ms) h = sorted_after_root (below_members ms) (begin_members (λ s. Unit {0}) ms (some_step ms)) (members_ascend ms h.0 h.1)
  locations_below_root_ascend _ h = (tt, tt)

  items_ascend : (n : ℕ) (ds : Items) → AreOrderedDocuments ds → IsStrictlySortedBy location_cmp (below_items n ds)
  items_ascend n no_items h = tt
  items_ascend n (item d ds) h =
      sorted_children (index n) (below d) (below_items (suc n) ds) (locations_below_root_ascend d h.0) (items_ascend (suc n) ds h.1)
      (begin_items (Precedes (index n)) (suc n) ds (λ j le. let below_j : n < j = omega arith in sym (nat_cmp_is n j Less below_j)))

  members_ascend : (ms : Members) → IsStrictlySortedBy step_cmp (names ms) → HoldOrderedDocuments ms → IsStrictlySortedBy location_cmp (below_members ms)
  members_ascend no_members h k = tt
  members_ascend (member j d ms) h k =
      sorted_children (name j) (below d) (below_members ms) (locations_below_root_ascend d k.0) (members_ascend ms h.1 k.1) (begin_members (Precedes (name j)) ms h.0)

-- ---- below one location

common : (l a b : Location) → location_cmp (l ++ a) (l ++ b) ≡ location_cmp a b
common [] a b = refl
common (s ∷ l) a b = ap (λ (o : Ordering). ordering_then o (location_cmp (l ++ a) (l ++ b))) (step-tied s) ∙ common l a b

all_common : (l a : Location) (ls : List Location) → AllByRecursion (λ b. location_cmp a b ≡ Less) ls → AllByRecursion (λ b. location_cmp (l ++ a) b ≡ Less) (map (λ (m : Location). l ++ m) ls)
all_common l a ls h = grind (arith, all_map, all_then, common)

pub sorted_deeper : (l : Location) (ls : List Location) → IsStrictlySortedBy location_cmp ls → IsStrictlySortedBy location_cmp (map (λ (m : Location). l ++ m) ls)
unfolding IsStrictlySortedBy
sorted_deeper l [] h = tt
sorted_deeper l (a ∷ ls) h = (all_common l a ls h.0, sorted_deeper l ls h.1)

-- ---- what is flat ascends

begin_flat : (P : Step → Type 0) (n : ℕ) (ds : Items) → ((j : ℕ) → n ≤ j → P (index j)) → AllByRecursion (Begins P) (flat_items n ds)
begin_flat P n no_items h = tt
begin_flat P n (item d ds) h =
    all_append (Begins P) (map (λ (l : Location). index n ∷ l) (flat d)) (flat_items (suc n) ds) (all_begin P (index n) (flat d) (h n (omega arith))) (begin_flat P (suc n) ds (λ j le. h j (omega arith)))

mutual
  unfolding IsStrictlySortedBy

  pub flat_ascends : (d : Document) → IsStrictlySortedBy location_cmp (flat d)
  flat_ascends (array ds) = flat_items_ascend 0 ds
  flat_ascends _ = (tt, tt)

  flat_items_ascend : (n : ℕ) (ds : Items) → IsStrictlySortedBy location_cmp (flat_items n ds)
  flat_items_ascend n no_items = tt
  flat_items_ascend n (item d ds) =
      sorted_children (index n) (flat d) (flat_items (suc n) ds) (flat_ascends d) (flat_items_ascend (suc n) ds)
      (begin_flat (Precedes (index n)) (suc n) ds (λ j le. let below_j : n < j = omega arith in sym (nat_cmp_is n j Less below_j)))
