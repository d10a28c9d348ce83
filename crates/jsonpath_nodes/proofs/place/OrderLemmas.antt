-- The order of steps, over what they stand for.
use Rattle.std.proofs.Common.{◌≡◌, List, [], ◌∷◌, fold, Ordering, Less, refl, ap, arith}
use Rattle.std.specs.BTreeSet.{insert_key}
use Rattle.std.specs.Cmp.{IsTotalOrder}
use Rattle.std.specs.List.{AllByRecursion}
use Rattle.std.specs.List.Sorted.{IsStrictlySortedBy}
use Rattle.std.specs.Cmp.Lexicographic.{slice_cmp}
use Rattle.std.specs.Ordering.{on, ordering_then, match_ordering}
use Rattle.jsonpath_nodes.specs.declared.place.location.LocStep.{LocStep}
use Rattle.jsonpath_nodes.specs.place.Location.{Location, step_cmp, location_cmp}
use Rattle.jsonpath_nodes.specs.place.Order.{location_total, once_in_order}
use Rattle.jsonpath_nodes.specs.place.Owned.{owned_step, owned_steps}

pub slice_cmp-steps : (xs ys : List LocStep) → slice_cmp (on owned_step step_cmp) xs ys ≡ location_cmp (owned_steps xs) (owned_steps ys)
slice_cmp-steps [] [] = refl
slice_cmp-steps [] (y ∷ ys) = refl
slice_cmp-steps (x ∷ xs) [] = refl
slice_cmp-steps (x ∷ xs) (y ∷ ys) = ap (ordering_then (step_cmp (owned_step x) (owned_step y))) (slice_cmp-steps xs ys)

-- ---- what is inserted in order stays in order

module _ {K : Type 0} {R : K → K → Ordering} (o : IsTotalOrder R) where
  all_insert_at : (P : K → Type 0) (r : Ordering) (k x : K) (xs ys : List K) → P k → P x → AllByRecursion P xs → AllByRecursion P ys
      → AllByRecursion P (match_ordering r (k ∷ x ∷ xs) (x ∷ xs) (x ∷ ys))
  all_insert_at P r k x xs ys here first rest more = grind arith

  pub all_insert : (P : K → Type 0) (k : K) (xs : List K) → P k → AllByRecursion P xs → AllByRecursion P (insert_key R xs k)
  all_insert P k [] here rest = (here, tt)
  all_insert P k (x ∷ xs) here rest = all_insert_at P (R k x) k x xs (insert_key R xs k) here rest.0 rest.1 (all_insert P k xs here rest.1)

  above : (k x : K) (xs : List K) → R k x ≡ Less → AllByRecursion (λ y. R x y ≡ Less) xs → AllByRecursion (λ y. R k y ≡ Less) xs
  above k x [] e h = tt
  above k x (y ∷ ys) e h = (o.trans k x y e h.0, above k x ys e h.1)

  insert_sorted_at : (r : Ordering) (k x : K) (xs : List K) → R k x ≡ r → IsStrictlySortedBy R (x ∷ xs) → IsStrictlySortedBy R (insert_key R xs k)
      → IsStrictlySortedBy R (match_ordering r (k ∷ x ∷ xs) (x ∷ xs) (x ∷ insert_key R xs k))
  unfolding IsStrictlySortedBy
  insert_sorted_at r k x xs e h later = grind (arith, above, all_insert)

  insert_sorted : (k : K) (xs : List K) → IsStrictlySortedBy R xs → IsStrictlySortedBy R (insert_key R xs k)
  unfolding IsStrictlySortedBy
  insert_sorted k [] h = (tt, tt)
  insert_sorted k (x ∷ xs) h = insert_sorted_at (R k x) k x xs refl h (insert_sorted k xs h.1)

  fold_sorted : (ks xs : List K) → IsStrictlySortedBy R xs → IsStrictlySortedBy R (fold (insert_key R) xs ks)
  fold_sorted [] xs h = h
  fold_sorted (k ∷ ks) xs h = fold_sorted ks (insert_key R xs k) (insert_sorted k xs h)

pub once_in_order-sorted : (ls : List Location) → IsStrictlySortedBy location_cmp (once_in_order ls)
unfolding IsStrictlySortedBy
once_in_order-sorted ls = fold_sorted location_total ls [] tt
