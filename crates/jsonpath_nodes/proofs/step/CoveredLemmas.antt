-- A location that stands below another one of a list adds nothing to what is answered at its topmost.
use Rattle.std.proofs.Common.{◌≡◌, ℕ, zero, suc, List, [], ◌∷◌, ◌++◌, Option, Bool, true, ◌&&◌, ◌||◌, replicate, Less, refl, ap, ap₂, ◌∙◌, arith}
use Rattle.std.proofs.lemmas.Bool.{and_parts}
use Rattle.std.specs.List.{AllByRecursion}
use Rattle.std.specs.List.Sorted.{IsStrictlySortedBy}
use Rattle.jsonpath_nodes.specs.document.Document.{Document}
use Rattle.jsonpath_nodes.specs.place.Location.{Location, location_cmp}
use Rattle.jsonpath_nodes.specs.update.Run.{update_each_back}
use Rattle.jsonpath_nodes.specs.update.Update.{update}
use Rattle.jsonpath_nodes.specs.update.Topmost.{same_step, with_answer_at_topmost, begins_with, is_covered_by}
use Rattle.jsonpath_nodes.proofs.update.SetLemmas.{covers, step_congr, topmost_same}

further : (l m p : Location) → begins_with l m ≡ true → begins_with m p ≡ true → begins_with l p ≡ true
further [] m p h k = refl
further (s ∷ l) [] p h k = cc
further (s ∷ l) (t ∷ m) [] h k = cc
further (s ∷ l) (t ∷ m) (u ∷ p) h k =
    let one = and_parts (same_step t s) (begins_with l m) h in
    let two = and_parts (same_step u t) (begins_with m p) k in
    ap₂ (λ (x y : Bool). x && y) (step_congr u t s two.0 ∙ one.0) (further l m p one.1 two.1)

covered_further : (l m p : Location) → is_covered_by l m ≡ true → is_covered_by m p ≡ true → is_covered_by l p ≡ true
covered_further [] m p h k = cc
covered_further (s ∷ l) [] p h k = cc
covered_further (s ∷ l) (t ∷ m) p h k = further (s ∷ l) (t ∷ m) p h k

pub covers_no_more : (xs ys : List Location) (l m p : Location) → is_covered_by l m ≡ true → covers p (xs ++ l ∷ m ∷ ys) ≡ covers p (xs ++ l ∷ ys)
covers_no_more (x ∷ xs) ys l m p h = ap (λ (b : Bool). is_covered_by x p || b) (covers_no_more xs ys l m p h)
covers_no_more [] ys l m p h = grind (arith, covered_further)

pub covered : (a : Option Document) (xs ys : List Location) (l m : Location) → is_covered_by l m ≡ true → (d : Document) → with_answer_at_topmost a (xs ++ l ∷ m ∷ ys) d ≡ with_answer_at_topmost a (xs ++ l ∷ ys) d
covered a xs ys l m h d = topmost_same a (xs ++ l ∷ m ∷ ys) (xs ++ l ∷ ys) d (λ p. covers_no_more xs ys l m p h)

-- ---- a sorted list without one of its elements

all_without : (P : Location → Type 0) (xs ys : List Location) (l : Location) → AllByRecursion P (xs ++ l ∷ ys) → AllByRecursion P (xs ++ ys)
all_without P [] ys l h = h.1
all_without P (x ∷ xs) ys l h = (h.0, all_without P xs ys l h.1)

pub sorted_without : (xs ys : List Location) (l : Location) → IsStrictlySortedBy location_cmp (xs ++ l ∷ ys) → IsStrictlySortedBy location_cmp (xs ++ ys)
unfolding IsStrictlySortedBy
sorted_without [] ys l h = h.1
sorted_without (x ∷ xs) ys l h = (all_without (λ m. location_cmp x m ≡ Less) xs ys l h.0, sorted_without xs ys l h.1)

-- ---- from the last location back to the first

module _ (a : Option Document) where
  pub back_last : (ls : List Location) (l : Location) (d : Document) → update_each_back a (ls ++ l ∷ []) d ≡ update_each_back a ls (update l a d)
  back_last [] l d = refl
  back_last (m ∷ ls) l d = ap (update m a) (back_last ls l d)

-- ---- a list of one value so many times

head_or : Document → List Document → Document
head_or d [] = d
head_or d (x ∷ xs) = x

tail_of : List Document → List Document
tail_of [] = []
tail_of (x ∷ xs) = xs

pub replicate_last : (d : Document) (zs : List Document) (b : Document) (n : ℕ) → zs ++ b ∷ [] ≡ replicate (suc n) d → (zs ≡ replicate n d) × (b ≡ d)
unfolding head_or tail_of
replicate_last d [] b zero e = (refl, ap (head_or d) e)
replicate_last d [] b (suc n) e = absurd (cc)
replicate_last d (x ∷ []) b zero e = absurd (cc)
replicate_last d (x ∷ y ∷ zs) b zero e = absurd (cc)
replicate_last d (x ∷ zs) b (suc n) e = grind (arith, head_or, replicate_last d zs b n (ap tail_of e))
