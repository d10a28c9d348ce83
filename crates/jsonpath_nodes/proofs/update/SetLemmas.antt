-- Of the locations only what they cover matters to what is nulled and taken: not their order, nor repeats, nor those below another one.
use Rattle.std.proofs.Common.{◌≡◌, ℕ, suc, List, [], ◌∷◌, fold, Option, Bool, true, false, ◌&&◌, ◌||◌, not, Ordering, Equal, cond, is_eq, refl, sym, ap, ◌∙◌, arith}
use Rattle.std.proofs.Math.Bool.{and-false, or-false, or_assoc, or_comm}
use Rattle.std.proofs.lemmas.Cmp.{nat_list_cmp_total}
use Rattle.std.specs.List.{list_any}
use Rattle.std.specs.BTreeSet.{insert_key}
use Rattle.std.specs.Cmp.{eq_by_cmp_equiv}
use Rattle.std.specs.Ordering.{match_ordering, ordering_then}
use Rattle.jsonpath_nodes.specs.document.Document.{Document, array, object, Items, no_items, item, Members, no_members, member}
use Rattle.jsonpath_nodes.specs.place.Location.{Step, name, index, Location, step_cmp, location_cmp}
use Rattle.jsonpath_nodes.specs.place.Order.{location_total, once_in_order, step_total}
use Rattle.jsonpath_nodes.specs.update.Update.{item_if, member_if}
use Rattle.jsonpath_nodes.specs.update.Topmost.{is_covered_by, same_step, under, elsewhere, has_root, with_answer_at_topmost, items_with_answer, members_with_answer}
use Rattle.jsonpath_nodes.proofs.update.TopmostLemmas.{piece}

abbrev pub same_location : Location → Location → Bool
same_location [] [] = true
same_location [] (s ∷ l) = false
same_location (t ∷ m) [] = false
same_location (t ∷ m) (s ∷ l) = same_step t s && same_location m l

abbrev pub contains : Location → List Location → Bool
contains l ls = list_any (λ m. same_location m l) ls

-- ---- steps that are the same

pub step_eq : (t s : Step) → same_step t s ≡ is_eq (step_cmp t s)
step_eq t s = grind arith

pub same_itself : (s : Step) → same_step s s ≡ true
same_itself s = step_eq s s ∙ (eq_by_cmp_equiv step_total).refl s

pub same_back : (s t : Step) → same_step s t ≡ same_step t s
same_back s t = step_eq s t ∙ (eq_by_cmp_equiv step_total).symm s t ∙ sym (step_eq t s)

pub step_congr : (t r s : Step) → same_step t r ≡ true → same_step t s ≡ same_step r s
step_congr t r s e = grind (arith, nat_list_cmp_total)

-- ---- what they cover

-- whether some of them that is not the root stands at or above the location
abbrev pub covers : Location → List Location → Bool
covers p ls = list_any (λ m. is_covered_by m p) ls

-- they cover the same
abbrev pub SameCover : List Location → List Location → Type 0
SameCover ls ms = (p : Location) → covers p ls ≡ covers p ms

covers_root : (ls : List Location) → covers [] ls ≡ false
covers_root [] = refl
covers_root ([] ∷ ls) = covers_root ls
covers_root ((s ∷ l) ∷ ls) = covers_root ls

swapped : (x y c : Bool) → (x || (y || c)) ≡ (y || (x || c))
swapped x y c = sym (or_assoc x y c) ∙ ap (λ (b : Bool). b || c) (or_comm x y) ∙ or_assoc y x c

under_covers : (s : Step) (p : Location) (ls : List Location) → covers (s ∷ p) ls ≡ (has_root (under s ls) || covers p (under s ls))
under_covers s p [] = refl
under_covers s p ([] ∷ ls) = under_covers s p ls
under_covers s p ((t ∷ l) ∷ ls) = grind (arith, same_back, under_covers s p ls)

elsewhere_cases : (b c p q x : Bool) → (p ≡ true → b ≡ c) → cond b (not c && x) ((p && q) || (not c && x)) ≡ (not c && ((p && q) || x))
elsewhere_cases b c p q x h = grind arith

elsewhere_covers : (s r : Step) (p : Location) (ls : List Location) → covers (r ∷ p) (elsewhere s ls) ≡ (not (same_step r s) && covers (r ∷ p) ls)
elsewhere_covers s r p [] = sym (and-false (not (same_step r s)))
elsewhere_covers s r p ([] ∷ ls) = elsewhere_covers s r p ls
elsewhere_covers s r p ((t ∷ m) ∷ ls) = grind (arith, elsewhere_cases, step_congr, elsewhere_covers s r p ls)

cover_root : (s : Step) (ls ms : List Location) → SameCover ls ms → has_root (under s ls) ≡ has_root (under s ms)
cover_root s ls ms h = root_of ls ∙ h (s ∷ []) ∙ sym (root_of ms)
  where
    root_of : (ks : List Location) → has_root (under s ks) ≡ covers (s ∷ []) ks
    root_of ks = sym (under_covers s [] ks ∙ ap (λ (b : Bool). has_root (under s ks) || b) (covers_root (under s ks)) ∙ or-false (has_root (under s ks)))

cover_under : (s : Step) (ls ms : List Location) → SameCover ls ms → has_root (under s ls) ≡ false → has_root (under s ms) ≡ false → SameCover (under s ls) (under s ms)
cover_under s ls ms h one two p =
    sym (under_covers s p ls ∙ ap (λ (b : Bool). b || covers p (under s ls)) one) ∙ h (s ∷ p) ∙ under_covers s p ms ∙ ap (λ (b : Bool). b || covers p (under s ms)) two

cover_elsewhere : (s : Step) (ls ms : List Location) → SameCover ls ms → SameCover (elsewhere s ls) (elsewhere s ms)
cover_elsewhere s ls ms h [] = covers_root (elsewhere s ls) ∙ sym (covers_root (elsewhere s ms))
cover_elsewhere s ls ms h (r ∷ p) = elsewhere_covers s r p ls ∙ ap (λ x. not (same_step r s) && x) (h (r ∷ p)) ∙ sym (elsewhere_covers s r p ms)

-- ---- what they answer is by what they cover

same_piece : (a : Option Document) (ls ms : List Location) (d : Document) → has_root ls ≡ has_root ms
    → (has_root ls ≡ false → has_root ms ≡ false → with_answer_at_topmost a ls d ≡ with_answer_at_topmost a ms d) → piece a ls d ≡ piece a ms d
same_piece a ls ms d root deep = grind arith

mutual
  pub topmost_same : (a : Option Document) (ls ms : List Location) (d : Document) → SameCover ls ms → with_answer_at_topmost a ls d ≡ with_answer_at_topmost a ms d
  topmost_same a ls ms (array ds) h = ap array (items_same a ls ms 0 ds h)
  topmost_same a ls ms (object es) h = ap object (members_same a ls ms es h)
  topmost_same a ls ms _ h = refl

  items_same : (a : Option Document) (ls ms : List Location) (n : ℕ) (ds : Items) → SameCover ls ms → items_with_answer a ls n ds ≡ items_with_answer a ms n ds
  items_same a ls ms n no_items h = refl
  items_same a ls ms n (item d ds) h =
      ap (λ p. item_if p (items_with_answer a ls (suc n) ds))
      (same_piece a (under (index n) ls) (under (index n) ms) d (cover_root (index n) ls ms h) (λ one two. topmost_same a (under (index n) ls) (under (index n) ms) d (cover_under (index n) ls ms h one two)))
      ∙ ap (λ r. item_if (piece a (under (index n) ms) d) r) (items_same a ls ms (suc n) ds h)

  members_same : (a : Option Document) (ls ms : List Location) (es : Members) → SameCover ls ms → members_with_answer a ls es ≡ members_with_answer a ms es
  members_same a ls ms no_members h = refl
  members_same a ls ms (member k d es) h =
      ap (λ p. member_if k p (members_with_answer a (elsewhere (name k) ls) es))
      (same_piece a (under (name k) ls) (under (name k) ms) d (cover_root (name k) ls ms h) (λ one two. topmost_same a (under (name k) ls) (under (name k) ms) d (cover_under (name k) ls ms h one two)))
      ∙ ap (λ r. member_if k (piece a (under (name k) ms) d) r) (members_same a (elsewhere (name k) ls) (elsewhere (name k) ms) es (cover_elsewhere (name k) ls ms h))

-- ---- each once and in order, they are the same

pub eq_then : (o r : Ordering) → is_eq (ordering_then o r) ≡ (is_eq o && is_eq r)
eq_then o r = grind arith

pub location_eq : (m l : Location) → same_location m l ≡ is_eq (location_cmp m l)
location_eq [] [] = refl
location_eq [] (s ∷ l) = refl
location_eq (t ∷ m) [] = refl
location_eq (t ∷ m) (s ∷ l) = ap (λ x. x && same_location m l) (step_eq t s) ∙ ap (λ x. is_eq (step_cmp t s) && x) (location_eq m l) ∙ sym (eq_then (step_cmp t s) (location_cmp m l))

same_congr : (k x l : Location) → location_cmp k x ≡ Equal → same_location k l ≡ same_location x l
same_congr k x l e = location_eq k l ∙ (eq_by_cmp_equiv location_total).congr k x l (ap is_eq e) ∙ sym (location_eq x l)

insert_at : (o : Ordering) (k x l : Location) (xs : List Location) → location_cmp k x ≡ o → contains l (insert_key location_cmp xs k) ≡ (same_location k l || contains l xs)
    → contains l (match_ordering o (k ∷ x ∷ xs) (x ∷ xs) (x ∷ insert_key location_cmp xs k)) ≡ (same_location k l || (same_location x l || contains l xs))
insert_at o k x l xs e later = grind (arith, same_congr, swapped)

insert_contains : (k l : Location) (xs : List Location) → contains l (insert_key location_cmp xs k) ≡ (same_location k l || contains l xs)
insert_contains k l [] = refl
insert_contains k l (x ∷ xs) = insert_at (location_cmp k x) k x l xs refl (insert_contains k l xs)

fold_contains : (l : Location) (ls xs : List Location) → contains l (fold (insert_key location_cmp) xs ls) ≡ (contains l ls || contains l xs)
fold_contains l [] xs = refl
fold_contains l (k ∷ ls) xs = grind (arith, insert_contains, fold_contains l ls (insert_key location_cmp xs k))

pub once_in_order-same : (ls : List Location) (l : Location) → contains l (once_in_order ls) ≡ contains l ls
once_in_order-same ls l = fold_contains l ls [] ∙ or-false (contains l ls)
