-- A list in document order is what stands once and in order of it.
use Rattle.std.proofs.Common.{◌≡◌, ℕ, true, List, [], ◌∷◌, ◌++◌, ◌+◌, ◌-◌, ◌<◌, length, get_or, Option, None, Some, length-drop, map, take, drop, fold, Ordering, Less, Greater, is_lt, refl, sym, ap, subst, ◌∙◌, append_assoc, arith}
use mathlib.Core.List.{append-nil}
use Rattle.std.proofs.lemmas.List.{map-append, take-append-drop, take_more}
use Rattle.std.proofs.Math.Seq.{take-length}
use Rattle.std.proofs.lemmas.List.Sums.{fold-append}
use Rattle.std.specs.BTreeSet.{insert_key}
use Rattle.std.specs.Cmp.{IsTotalOrder}
use Rattle.std.specs.List.{AllByRecursion}
use Rattle.std.specs.List.Sorted.{IsStrictlySortedBy}
use Rattle.std.specs.Ordering.{ordering_reverse, match_ordering}
use Rattle.jsonpath_nodes.specs.place.Location.{Location, location_cmp}
use Rattle.jsonpath_nodes.specs.place.Order.{location_total, once_in_order}
use Rattle.jsonpath_nodes.specs.plan.OrderedSpots.{comes_behind}

module _ {K : Type 0} {R : K → K → Ordering} (o : IsTotalOrder R) where
  all_push : (P : K → Type 0) (xs : List K) (y : K) → AllByRecursion P xs → P y → AllByRecursion P (xs ++ y ∷ [])
  all_push P [] y h here = (here, tt)
  all_push P (x ∷ xs) y h here = (h.0, all_push P xs y h.1 here)

  all_last : (P : K → Type 0) (xs : List K) (y : K) (zs : List K) → AllByRecursion P (xs ++ y ∷ zs) → P y
  all_last P [] y zs h = h.0
  all_last P (x ∷ xs) y zs h = all_last P xs y zs h.1

  push_sorted : (xs : List K) (z y : K) → R z y ≡ Less → IsStrictlySortedBy R (xs ++ z ∷ []) → IsStrictlySortedBy R ((xs ++ z ∷ []) ++ y ∷ [])
  unfolding IsStrictlySortedBy
  push_sorted [] z y e h = ((e, tt), (tt, tt))
  push_sorted (x ∷ xs) z y e h =
      let before = all_last (λ k. R x k ≡ Less) xs z [] h.0 in
      (all_push (λ k. R x k ≡ Less) (xs ++ z ∷ []) y h.0 (o.trans x z y before e), push_sorted xs z y e h.1)

  insert_greater : (r : Ordering) (k x : K) (xs : List K) → r ≡ Greater → match_ordering r (k ∷ x ∷ xs) (x ∷ xs) (x ∷ insert_key R xs k) ≡ x ∷ insert_key R xs k
  insert_greater r k x xs e = ap (λ r. match_ordering r (k ∷ x ∷ xs) (x ∷ xs) (x ∷ insert_key R xs k)) e

  insert_last : (ys : List K) (x : K) (zs : List K) → IsStrictlySortedBy R (ys ++ x ∷ zs) → insert_key R ys x ≡ ys ++ x ∷ []
  unfolding IsStrictlySortedBy
  insert_last [] x zs h = refl
  insert_last (y ∷ ys) x zs h =
      let before = all_last (λ k. R y k ≡ Less) ys x zs h.0 in
      let after : R x y ≡ Greater = o.antisymm x y ∙ ap ordering_reverse before in
      insert_greater (R x y) x y ys after ∙ ap (λ ks. y ∷ ks) (insert_last ys x zs h.1)

  fold_in_order : (xs ys : List K) → IsStrictlySortedBy R (ys ++ xs) → fold (insert_key R) ys xs ≡ ys ++ xs
  fold_in_order [] ys h = sym (append-nil ys)
  fold_in_order (x ∷ xs) ys h =
      ap (λ ks. fold (insert_key R) ks xs) (insert_last ys x xs h)
      ∙ (fold_in_order xs (ys ++ x ∷ []) (subst (IsStrictlySortedBy R) (sym (append_assoc ys (x ∷ []) xs)) h) ∙ append_assoc ys (x ∷ []) xs)

pub once_sorted : (ls : List Location) → IsStrictlySortedBy location_cmp ls → ls ≡ once_in_order ls
once_sorted ls h = sym (fold_in_order location_total ls [] h)

less_of : (o : Ordering) → is_lt o ≡ true → o ≡ Less
less_of o h = grind arith

pub sorted_behind : (ls front : List Location) (l m : Location) → ls ≡ front ++ l ∷ [] → is_lt (location_cmp l m) ≡ true
    → IsStrictlySortedBy location_cmp ls → IsStrictlySortedBy location_cmp (ls ++ m ∷ [])
sorted_behind ls front l m e h s =
    let P : List Location → Type 0 = λ xs. IsStrictlySortedBy location_cmp xs → IsStrictlySortedBy location_cmp (xs ++ m ∷ []) in
    subst P (sym e) (push_sorted location_total front l m (less_of _ h)) s

pub sorted_none : IsStrictlySortedBy location_cmp []
unfolding IsStrictlySortedBy
sorted_none = tt

pub sorted_alone : (ls : List Location) (m : Location) → length ls ≡ 0 → IsStrictlySortedBy location_cmp (ls ++ m ∷ [])
unfolding IsStrictlySortedBy
sorted_alone [] m h = (tt, tt)
sorted_alone (l ∷ ls) m h = cc

pub once_joined : {A : Type 0} (f : A → Location) (xs : List A) (i : ℕ) (ls : List Location) → ls ≡ map f (take i xs)
    → once_in_order (ls ++ map f (take (length xs - i) (drop i xs))) ≡ once_in_order (map f xs)
once_joined f xs i ls e =
    let rest = ap (λ n. take n (drop i xs)) (sym (length-drop i xs)) ∙ take-length (drop i xs) in
    let joined = ap (λ ys. ys ++ map f (drop i xs)) e ∙ (sym (map-append f (take i xs) (drop i xs)) ∙ ap (map f) (take-append-drop i xs)) in
    ap once_in_order (ap (λ ys. ls ++ map f ys) rest ∙ joined)

pub whole_taken : {A : Type 0} (f : A → Location) (xs : List A) (i : ℕ) (ls : List Location) → i ≡ length xs → ls ≡ map f (take i xs) → ls ≡ map f xs
whole_taken f xs i ls n e = e ∙ (ap (λ i. map f (take i xs)) n ∙ ap (map f) (take-length xs))

-- ---- one location more

pub taken_more : {A : Type 0} (f : A → Location) (xs : List A) (i : ℕ) (x : A) (m : Location) → i < length xs → x ≡ get_or xs i x → m ≡ f x → map f (take (i + 1) xs) ≡ map f (take i xs) ++ m ∷ []
taken_more f xs i x m within is here =
    let taken : take (i + 1) xs ≡ take i xs ++ x ∷ [] = take_more xs i x within ∙ ap (λ y. take i xs ++ y ∷ []) (sym is) in
    ap (map f) taken ∙ (map-append f (take i xs) (x ∷ []) ∙ ap (λ l. map f (take i xs) ++ l ∷ []) (sym here))

pub once_more : (ls : List Location) (m : Location) → insert_key location_cmp (once_in_order ls) m ≡ once_in_order (ls ++ m ∷ [])
once_more ls m = sym (fold-append (insert_key location_cmp) [] ls (m ∷ []))

-- ---- one location behind the other

-- the list ends with the location, or has none where there is none
abbrev pub EndsWith : Option Location → List Location → Type 0
EndsWith None ls = ls ≡ []
EndsWith (Some l) ls = (front : List Location) × (ls ≡ front ++ l ∷ [])

behind_last : (last : Option Location) (m : Location) (ls : List Location) → EndsWith last ls → comes_behind last m ≡ true
    → IsStrictlySortedBy location_cmp ls → IsStrictlySortedBy location_cmp (ls ++ m ∷ [])
behind_last last m ls none h s = grind (arith, sorted_alone, sorted_behind)

pub next_behind : {A : Type 0} (f : A → Location) (xs : List A) (i : ℕ) (x : A) (last : Option Location) (m : Location) → i < length xs → x ≡ get_or xs i x → m ≡ f x
    → comes_behind last m ≡ true → EndsWith last (map f (take i xs)) → IsStrictlySortedBy location_cmp (map f (take i xs))
    → IsStrictlySortedBy location_cmp (map f (take (i + 1) xs)) × EndsWith (Some m) (map f (take (i + 1) xs))
next_behind f xs i x last m within is here h end s =
    let mapped = taken_more f xs i x m within is here in
    (subst (IsStrictlySortedBy location_cmp) (sym mapped) (behind_last last m (map f (take i xs)) end h s), (map f (take i xs), mapped))

pub sorted_whole : {A : Type 0} (f : A → Location) (xs : List A) (i : ℕ) → i ≡ length xs → IsStrictlySortedBy location_cmp (map f (take i xs)) → IsStrictlySortedBy location_cmp (map f xs)
sorted_whole f xs i end s = subst (IsStrictlySortedBy location_cmp) (whole_taken f xs i (map f (take i xs)) end refl) s
