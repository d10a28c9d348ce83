-- How locations stand after one plain step more.
use Rattle.std.proofs.Common.{◌≡◌, ℕ, zero, suc, ◌<◌, Bool, true, false, List, [], ◌∷◌, length, take, drop, Option, Some, None, refl, sym, ap, subst, arith, ℤ}
use Rattle.std.specs.List.{AllByRecursion, IsDistinct}
use Rattle.jsonpath_nodes.specs.document.Document.{Document}
use Rattle.jsonpath_nodes.specs.place.Location.{Location, at, is_same}
use Rattle.jsonpath_nodes.specs.place.Mark.{shown, look_kept, MarksStandAt}
use Rattle.jsonpath_nodes.specs.step.Separate.{IsDisjoint, HasNamesInOrder, NamesInOrderAt, SelectsNoneTwice, goes_by_names, in_one_array, in_one_branch, is_every}
use Rattle.jsonpath_nodes.specs.step.Steps.{Plain, every}
use Rattle.jsonpath_select.specs.Parts.{at_index}
use Rattle.jsonpath_select.specs.plan.Standing.{IsStanding}
use Rattle.jsonpath_select.specs.declared.machine.standing.Standing.{Standing}
use Rattle.jsonpath_select.specs.declared.machine.standing.Standing.TheVariants.{Disjoint, Apart, Distinct, Unknown}

pub standing_at : (ls : List Location) (a b : Standing) → a ≡ b → IsStanding a ls → IsStanding b ls
standing_at ls a b is s = subst (λ st. IsStanding st ls) is s

-- no location, or one
pub few_disjoint : (ls : List Location) → length ls < 2 → IsDisjoint ls
unfolding IsDistinct
few_disjoint [] few = tt
few_disjoint (l ∷ []) few = (tt, tt)
few_disjoint (l ∷ m ∷ ls) few = absurd (omega arith)

-- no name is `*`, nor is an index, be it a whole number or none
pub no_star_by_name : (doc : Document) (p : Plain) (ls : List Location) → goes_by_names p ≡ true → is_every p ≡ true → NamesInOrderAt doc ls
no_star_by_name doc every ls h k = cc
no_star_by_name doc _ ls h k = cc

pub no_star_disjoint : (doc : Document) (p : Plain) (ls : List Location) → is_every p ≡ false → is_every p ≡ true → NamesInOrderAt doc ls
no_star_disjoint doc p ls h k = cc

pub index_is_no_star : (o : Option ℤ) → is_every (at_index o) ≡ false
index_is_no_star None = refl
index_is_no_star (Some n) = refl

pub index_once : (o : Option ℤ) → SelectsNoneTwice (at_index o)
unfolding IsDistinct
index_once None = tt
index_once (Some n) = tt

-- ---- marks whose values have their names in order

module _ {M : Type 0} (located : Bool) (stand : M → Location) (content : M → Document) where
  pub named_in_order : (doc : Document) (ls : List Location) (ms : List M) → MarksStandAt located stand content doc ls ms → AllByRecursion (λ m. HasNamesInOrder (content m)) ms → NamesInOrderAt doc ls
  named_in_order doc [] ms e h = tt
  named_in_order doc (l ∷ ls) [] e h = cc
  named_in_order doc (l ∷ ls) (m ∷ ms) e h =
      let here : shown stand content m ≡ look_kept located doc l = cc in
      let there : at doc l ≡ Some (content m) = sym (ap (λ (x : Location × Option Document). x.1) here) in
      let later : MarksStandAt located stand content doc ls ms = cc in
      (λ d is. let same : content m ≡ d = cc in subst HasNamesInOrder same h.0, named_in_order doc ls ms later h.1)

-- ---- a part of a list

all_taken : (P : Location → Type 0) (n : ℕ) (ls : List Location) → AllByRecursion P ls → AllByRecursion P (take n ls)
all_taken P zero ls h = tt
all_taken P (suc n) [] h = tt
all_taken P (suc n) (l ∷ ls) h = (h.0, all_taken P n ls h.1)

module _ (e : Location → Location → Bool) where
  distinct_dropped : (i : ℕ) (ls : List Location) → IsDistinct e ls → IsDistinct e (drop i ls)
  unfolding IsDistinct
  distinct_dropped zero ls h = h
  distinct_dropped (suc i) [] h = tt
  distinct_dropped (suc i) (l ∷ ls) h = distinct_dropped i ls h.1

  distinct_taken : (n : ℕ) (ls : List Location) → IsDistinct e ls → IsDistinct e (take n ls)
  unfolding IsDistinct
  distinct_taken zero ls h = tt
  distinct_taken (suc n) [] h = tt
  distinct_taken (suc n) (l ∷ ls) h = (all_taken (λ m. e l m ≡ false) n ls h.0, distinct_taken n ls h.1)

  distinct_slice : (i n : ℕ) (ls : List Location) → IsDistinct e ls → IsDistinct e (take n (drop i ls))
  distinct_slice i n ls h = distinct_taken n (drop i ls) (distinct_dropped i ls h)

-- a part of a list stands as the whole
pub slice_standing : (s : Standing) (i n : ℕ) (ls : List Location) → IsStanding s ls → IsStanding s (take n (drop i ls))
slice_standing Disjoint i n ls h = distinct_slice in_one_branch i n ls h
slice_standing Apart i n ls h = distinct_slice in_one_array i n ls h
slice_standing Distinct i n ls h = distinct_slice is_same i n ls h
slice_standing Unknown i n ls h = tt
