-- One answer at each location, from the last back to the first, is that answer at the topmost locations.
use Rattle.std.proofs.Common.{◌≡◌, ◌≢◌, ℕ, zero, suc, ◌+◌, ◌<◌, List, [], ◌∷◌, Option, None, Bool, true, false, Ordering, Less, Equal, nat_cmp, nat_eq, cond, is_eq, ◌⊎◌, refl, sym, ap, ◌∙◌, arith}
use Rattle.std.proofs.lemmas.Bool.{ne_eqb, eq-eqb}
use Rattle.std.proofs.lemmas.Bool.Decides.{eqb_tells}
use Rattle.std.proofs.lemmas.Cmp.{ranked, nat_list_cmp_total}
use Rattle.std.specs.Cmp.Lexicographic.{slice_cmp}
use Rattle.std.specs.List.{AllByRecursion}
use Rattle.std.specs.List.Sorted.{IsStrictlySortedBy}
use Rattle.std.specs.Ordering.{ordering_then}
use Rattle.jsonpath_nodes.specs.document.Document.{Document, array, object, Items, no_items, item, Members, no_members, member}
use Rattle.jsonpath_nodes.specs.place.Location.{Step, name, index, Location, location_cmp}
use Rattle.jsonpath_nodes.specs.update.Update.{item_if, member_if, edit_item, edit_member, edit, with_answer_at}
use Rattle.jsonpath_nodes.specs.update.Topmost.{same_step, under, elsewhere, has_root, with_answer_at_topmost, items_with_answer, members_with_answer, taken}
use Rattle.jsonpath_nodes.specs.update.Run.{update_each_back}
use Rattle.jsonpath_nodes.proofs.update.TopmostLemmas.{piece, same_items, index_members, topmost_root, topmost_none}

-- l comes before each of the locations ls
abbrev pub Before : Location → List Location → Type 0
Before l ls = AllByRecursion (λ m. location_cmp l m ≡ Less) ls

-- ---- the locations that come later, seen from a child

pub under_before : (i n : ℕ) (l : Location) (ls : List Location) → n < i → Before (index i ∷ l) ls → under (index n) ls ≡ []
under_before i n l [] lt h = refl
under_before i n l ([] ∷ ls) lt h = under_before i n l ls lt h.1
under_before i n l ((name k ∷ m) ∷ ls) lt h = under_before i n l ls lt h.1
under_before i n l ((index j ∷ m) ∷ ls) lt h = grind (arith, ne_eqb, ranked, under_before i n l ls lt h.1)

under_index_at : (i j : ℕ) (b : Bool) (l m : Location) (us : List Location) → ((b ≡ true) × (j ≡ i)) ⊎ ((b ≡ false) × (j ≢ i))
    → ordering_then (nat_cmp i j) (location_cmp l m) ≡ Less → Before l us → Before l (cond b (m ∷ us) us)
under_index_at i j b l m us h e later = grind arith

pub under_index : (i : ℕ) (l : Location) (ls : List Location) → Before (index i ∷ l) ls → Before l (under (index i) ls)
under_index i l [] h = h
under_index i l ([] ∷ ls) h = under_index i l ls h.1
under_index i l ((name k ∷ m) ∷ ls) h = under_index i l ls h.1
under_index i l ((index j ∷ m) ∷ ls) h = under_index_at i j (nat_eq j i) l m (under (index i) ls) (eqb_tells j i) h.0 (under_index i l ls h.1)

under_name_at : (o : Ordering) (k p q : List ℕ) (l m : Location) (us : List Location) → slice_cmp nat_cmp p q ≡ o → slice_cmp nat_cmp k q ≡ Equal
    → ordering_then (slice_cmp nat_cmp k p) (location_cmp l m) ≡ Less → Before l us → Before l (cond (is_eq o) (m ∷ us) us)
under_name_at o k p q l m us e same h later = grind (arith, nat_list_cmp_total)

pub under_name : (k q : List ℕ) (l : Location) (ls : List Location) → slice_cmp nat_cmp k q ≡ Equal → Before (name k ∷ l) ls → Before l (under (name q) ls)
under_name k q l [] same h = h
under_name k q l ([] ∷ ls) same h = under_name k q l ls same h.1
under_name k q l ((index j ∷ m) ∷ ls) same h = under_name k q l ls same h.1
under_name k q l ((name p ∷ m) ∷ ls) same h = under_name_at (slice_cmp nat_cmp p q) k p q l m (under (name q) ls) refl same h.0 (under_name k q l ls same h.1)

elsewhere_at : (b : Bool) (l m : Location) (es : List Location) → location_cmp l m ≡ Less → Before l es → Before l (cond b es (m ∷ es))
elsewhere_at b l m es h later = grind arith

elsewhere_before : (s : Step) (l : Location) (ls : List Location) → Before l ls → Before l (elsewhere s ls)
elsewhere_before s l [] h = h
elsewhere_before s l ([] ∷ ls) h = (h.0, elsewhere_before s l ls h.1)
elsewhere_before s l ((t ∷ m) ∷ ls) h = elsewhere_at (same_step t s) l (t ∷ m) (elsewhere s ls) h.0 (elsewhere_before s l ls h.1)

no_root_at : (l : Location) → location_cmp l [] ≡ Less → false ≡ true
no_root_at [] h = cc
no_root_at (s ∷ l) h = cc

pub no_root : (l : Location) (ls : List Location) → Before l ls → has_root ls ≡ false
no_root l [] h = refl
no_root l ([] ∷ ls) h = sym (no_root_at l h.0)
no_root l ((s ∷ m) ∷ ls) h = no_root l ls h.1

-- ---- one answer at all of them

module _ (a : Option Document) where
  -- what stands at the end of the steps, after the later locations
  abbrev Earlier : List Location → Document → Location → Type 0
  Earlier u d l = (t : Step) (m : Location) → l ≡ t ∷ m → with_answer_at_topmost a ((t ∷ m) ∷ u) d ≡ edit (with_answer_at a m) t (with_answer_at_topmost a u d)

  piece_here : (l : Location) (u : List Location) (d : Document) → has_root u ≡ false → Earlier u d l → piece a (l ∷ u) d ≡ with_answer_at a l (with_answer_at_topmost a u d)
  piece_here l u d h e = grind arith

  item_here : (l : Location) (u : List Location) (d : Document) (ds : Items) → has_root u ≡ false → Earlier u d l
      → item_if (piece a (l ∷ u) d) ds ≡ edit_item (with_answer_at a l) zero (item_if (piece a u d) ds)
  item_here l u d ds h e = ap (λ p. item_if p ds) (piece_here l u d h e) ∙ rw h refl

  member_there : (o : Ordering) (p : Option Document) (f : Document → Option Document) (k q : List ℕ) (ms ns : Members) → slice_cmp nat_cmp k q ≡ o → is_eq o ≡ false
      → ns ≡ edit_member f k ms → member_if q p ns ≡ edit_member f k (member_if q p ms)
  member_there o p f k q ms ns e other later = grind arith

  member_at : (o : Ordering) (k q : List ℕ) (l : Location) (ls : List Location) (d : Document) (ms : Members) → slice_cmp nat_cmp k q ≡ o → Before (name k ∷ l) ls
      → ((t : Step) (m : Location) → Before (t ∷ m) (under (name q) ls) → with_answer_at_topmost a ((t ∷ m) ∷ under (name q) ls) d ≡ edit (with_answer_at a m) t (with_answer_at_topmost a (under (name q) ls) d))
      → members_with_answer a ((name k ∷ l) ∷ elsewhere (name q) ls) ms ≡ edit_member (with_answer_at a l) k (members_with_answer a (elsewhere (name q) ls) ms)
      → member_if q (piece a (cond (is_eq o) (l ∷ under (name q) ls) (under (name q) ls)) d) (members_with_answer a (cond (is_eq o) (elsewhere (name q) ls) ((name k ∷ l) ∷ elsewhere (name q) ls)) ms)
      ≡ edit_member (with_answer_at a l) k (member_if q (piece a (under (name q) ls) d) (members_with_answer a (elsewhere (name q) ls) ms))
  member_at o k q l ls d ms e h deep later = grind (arith, member_there, no_root, piece, under_name)

  mutual
    -- a location more, before the others, is answered last
    pub topmost_first : (t : Step) (l : Location) (ls : List Location) (d : Document) → Before (t ∷ l) ls
        → with_answer_at_topmost a ((t ∷ l) ∷ ls) d ≡ edit (with_answer_at a l) t (with_answer_at_topmost a ls d)
    topmost_first (name k) l ls (array ds) h = ap array (same_items a ((name k ∷ l) ∷ ls) ls 0 ds (λ m le. refl))
    topmost_first (name k) l ls (object ms) h = ap object (members_first k l ls ms h)
    topmost_first (index i) l ls (array ds) h = ap array (items_first i i l ls 0 ds (omega arith) h)
    topmost_first (index i) l ls (object ms) h = ap object (index_members a i l ls ms)
    topmost_first _ l ls _ h = refl

    items_first : (i j : ℕ) (l : Location) (ls : List Location) (n : ℕ) (ds : Items) → j ≡ n + i → Before (index j ∷ l) ls
        → items_with_answer a ((index j ∷ l) ∷ ls) n ds ≡ edit_item (with_answer_at a l) i (items_with_answer a ls n ds)
    items_first i j l ls n no_items e h = refl
    items_first zero j l ls n (item d ds) e h =
        let same : j ≡ n = omega arith in
        let here : nat_eq j n ≡ true = eq-eqb j n same in
        let past = same_items a ((index j ∷ l) ∷ ls) ls (suc n) ds (λ m le. let other : nat_eq j m ≡ false = ne_eqb j m (λ q. omega arith) in rw other refl) in
        let b : Before l (under (index n) ls) = under_index n l ls (rw same at h) in
        rw here (ap (λ r. item_if (piece a (l ∷ under (index n) ls) d) r) past
        ∙ item_here l (under (index n) ls) d (items_with_answer a ls (suc n) ds) (no_root l (under (index n) ls) b) (λ t m is. topmost_first t m (under (index n) ls) d (rw is at b)))
    items_first (suc i) j l ls n (item d ds) e h =
        let other : nat_eq j n ≡ false = ne_eqb j n (λ q. omega arith) in
        let none : under (index n) ls ≡ [] = under_before j n l ls (omega arith) h in
        rw (other, none) (ap (item (with_answer_at_topmost a [] d)) (items_first i j l ls (suc n) ds (omega arith) h))

    members_first : (k : List ℕ) (l : Location) (ls : List Location) (ms : Members) → Before (name k ∷ l) ls
        → members_with_answer a ((name k ∷ l) ∷ ls) ms ≡ edit_member (with_answer_at a l) k (members_with_answer a ls ms)
    members_first k l ls no_members h = refl
    members_first k l ls (member q d ms) h =
        member_at (slice_cmp nat_cmp k q) k q l ls d ms refl h (λ t m b. topmost_first t m (under (name q) ls) d b) (members_first k l (elsewhere (name q) ls) ms (elsewhere_before (name q) (name k ∷ l) ls h))

  -- from the last location back to the first, each once and in document order
  pub each_back : (ls : List Location) (d : Document) → IsStrictlySortedBy location_cmp ls → update_each_back a ls d ≡ with_answer_at_topmost a ls d
  unfolding IsStrictlySortedBy
  each_back [] d h = sym (topmost_none a d)
  each_back ([] ∷ ls) d h = each_back ls d h.1 ∙ sym (topmost_root a ls d)
  each_back ((s ∷ l) ∷ ls) d h = ap (edit (with_answer_at a l) s) (each_back ls d h.1) ∙ sym (topmost_first s l ls d h.0)

-- taking away
pub each_taken : (ls : List Location) (d : Document) → IsStrictlySortedBy location_cmp ls → update_each_back None ls d ≡ taken ls d
each_taken ls d h = each_back None ls d h
