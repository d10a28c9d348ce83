-- Candidates that are decided once for each location, and those whose location is among others.
use Rattle.std.proofs.Common.{◌≡◌, ℕ, suc, Bool, true, cond, ◌&&◌, ◌||◌, List, [], ◌∷◌, ◌++◌, Equal, refl, sym, ap, ap₂, subst, ◌∙◌, append-nil, append_assoc, filter}
use Rattle.std.proofs.Math.Bool.{and-true, or-true}
use Rattle.std.proofs.lemmas.Cmp.{tied_itself}
use Rattle.std.specs.List.{AllByRecursion, list_any}
use Rattle.jsonpath_nodes.specs.DocumentLaws.{OnceInOrderKeepsMembers}
use Rattle.jsonpath_nodes.specs.place.Location.{Location, location_cmp, is_same}
use Rattle.jsonpath_nodes.specs.place.NumbersWhere.{numbers_where}
use Rattle.jsonpath_nodes.specs.place.Order.{location_total, once_in_order}
use Rattle.jsonpath_nodes.specs.step.SameMembers.{SomeOfASet}
use Rattle.jsonpath_select.specs.plan.Machine.{Tagged, tagged, places, kept_by_number, kept_among}
use Rattle.jsonpath_select.proofs.tagged.GroupLemmas.{places_tagged}
use Rattle.jsonpath_select.proofs.tagged.TagLemmas.{kept-chosen, filter-tagged}
use Rattle.jsonpath_select.proofs.walk.LeadingLemmas.{same_passes}

pub tagged-filter : (test : Location → Bool) (t : ℕ) (ls : List Location) → filter (λ (p : Tagged). test p.1) (tagged t ls) ≡ tagged t (filter test ls)
tagged-filter test t ls =
    ap (filter (λ (p : Tagged). test p.1)) (sym (append-nil (tagged t ls))) ∙ filter-tagged test t ls [] ∙ append-nil (tagged t (filter test ls))

-- ---- among others

abbrev pub IsThere : List Location → Location → Type 0
IsThere ls l = list_any (is_same l) ls ≡ true

pub there_last : (before : List Location) (l : Location) (ls : List Location) → list_any (is_same l) (before ++ l ∷ ls) ≡ true
there_last [] l ls = rw (tied_itself location_total l) refl
there_last (m ∷ before) l ls = ap (λ (b : Bool). is_same l m || b) (there_last before l ls) ∙ or-true (is_same l m)

pub all_there : (before ls : List Location) → AllByRecursion (IsThere (before ++ ls)) ls
all_there before [] = tt
all_there before (l ∷ ls) = (there_last before l ls, subst (λ (xs : List Location). AllByRecursion (IsThere xs) ls) (append_assoc before (l ∷ []) ls) (all_there (before ++ l ∷ []) ls))

pub all_where : (P Q : Location → Type 0) (ls : List Location) → ((l : Location) → P l → Q l) → AllByRecursion P ls → AllByRecursion Q ls
all_where P Q [] h all = tt
all_where P Q (l ∷ ls) h all = (h l all.0, all_where P Q ls h all.1)

module _ (apart : (l m : Location) → location_cmp l m ≡ Equal → l ≡ m) (keeps : OnceInOrderKeepsMembers) (some_same : SomeOfASet) (test : Location → Bool) (all : List Location) where
  -- of a set those that pass, put in order: which of its members are there
  pub among_is : (l : Location) → IsThere all l → list_any (is_same l) (once_in_order (filter test all)) ≡ test l
  among_is l there =
      some_same (is_same l) (once_in_order (filter test all)) (filter test all) (keeps (filter test all))
      ∙ same_passes apart test l all ∙ ap (λ (b : Bool). test l && b) there ∙ and-true (test l)

  pub numbers_among : (n : ℕ) (ls : List Location) → AllByRecursion (IsThere all) ls → numbers_where (λ l. list_any (is_same l) (once_in_order (filter test all))) n ls ≡ numbers_where test n ls
  numbers_among n [] h = refl
  numbers_among n (l ∷ ls) h = ap₂ (λ (b : Bool) (ns : List ℕ). cond b (n ∷ ns) ns) (among_is l h.0) (numbers_among (suc n) ls h.1)

-- a list is among its set
pub there_once : (keeps : OnceInOrderKeepsMembers) (some_same : SomeOfASet) (ls : List Location) → AllByRecursion (IsThere (once_in_order ls)) ls
there_once keeps some_same ls = all_where (IsThere ls) (IsThere (once_in_order ls)) ls (λ l there. some_same (is_same l) (once_in_order ls) ls (keeps ls) ∙ there) (all_there [] ls)

-- ---- once for each location

module _ (apart : (l m : Location) → location_cmp l m ≡ Equal → l ≡ m) (keeps : OnceInOrderKeepsMembers) (some_same : SomeOfASet) (test : Location → Bool) where
  -- candidates of which each location is decided once, and those of them that pass
  pub decided_once : (ps : List Tagged)
      → kept_among (places (kept_by_number 0 (numbers_where test 0 (places (tagged 0 (once_in_order (places ps))))) (tagged 0 (once_in_order (places ps))))) ps
      ≡ filter (λ (p : Tagged). test p.1) ps
  decided_once ps =
      let ls = places ps in
      let ones = tagged 0 (once_in_order ls) in
      let passed : places (kept_by_number 0 (numbers_where test 0 (places ones)) ones) ≡ filter test (once_in_order ls) =
      ap places (kept-chosen test 0 ones ∙ tagged-filter test 0 (once_in_order ls)) ∙ places_tagged 0 (filter test (once_in_order ls)) in
      ap (λ (ms : List Location). kept_among ms ps) passed
      ∙ ap (λ (ns : List ℕ). kept_by_number 0 ns ps) (numbers_among apart keeps some_same test (once_in_order ls) 0 ls (there_once keeps some_same ls)) ∙ kept-chosen test 0 ps
