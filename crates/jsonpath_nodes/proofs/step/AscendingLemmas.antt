-- Where the base locations ascend with none below another, no candidate is found twice.
use Rattle.std.proofs.Common.{◌≡◌, ℕ, List, [], ◌∷◌, map, Option, Some, None, true, false, Ordering, Less, Equal, Greater, refl, sym, ap, ap₂, ◌∙◌, subst, arith, ◌<◌, ◌+◌, length, drop, get_or, drop-cons, add-one}
use Rattle.std.specs.List.{AllByRecursion, IsDistinct}
use Rattle.std.specs.Ordering.{match_ordering}
use Rattle.jsonpath_nodes.specs.place.Location.{Step, Location, step_cmp, flat}
use Rattle.jsonpath_nodes.specs.place.Order.{step_total}
use Rattle.jsonpath_nodes.specs.step.Separate.{in_one_branch, IsDisjoint}
use Rattle.jsonpath_nodes.specs.step.Steps.{from_each, flattened}
use Rattle.jsonpath_nodes.specs.place.SpotPlace.{look, place_location, place_value}
use Rattle.jsonpath_nodes.specs.plan.Ascending.{first_difference_ascends, AscendFrom, Ascend}
use Rattle.jsonpath_nodes.specs.place.Mark.{MarksLeadBy}
use Rattle.jsonpath_nodes.specs.document.Document.{Document}
use Rattle.jsonpath_nodes.specs.declared.place.spot.TreeNode.{TreeNode}
use Rattle.jsonpath_nodes.proofs.step.DisjointLemmas.{disjoint_stands_apart}
use Rattle.jsonpath_nodes.proofs.place.OrderedSpotLemmas.{locations-StandAt}
use Rattle.jsonpath_nodes.proofs.step.OnceLemmas.{step_same}
use Rattle.jsonpath_nodes.proofs.step.DistinctLemmas.{all_then}
use Rattle.jsonpath_nodes.proofs.step.SeparateLemmas.{apart_has_no_repeat_flat}
use Rattle.jsonpath_nodes.proofs.update.SetLemmas.{same_back}

-- ---- coming apart is transitive

apart_trans_at : (s t u : Step) (l m n : Location) → (first_difference_ascends l m ≡ true → first_difference_ascends m n ≡ true → first_difference_ascends l n ≡ true) → (o p : Ordering) → step_cmp s t ≡ o → step_cmp t u ≡ p
    → match_ordering o true (first_difference_ascends l m) false ≡ true → match_ordering p true (first_difference_ascends m n) false ≡ true → match_ordering (step_cmp s u) true (first_difference_ascends l n) false ≡ true
apart_trans_at s t u l m n go Less Less e f h k = ap (λ (q : Ordering). match_ordering q true (first_difference_ascends l n) false) (step_total.trans s t u e f)
apart_trans_at s t u l m n go Less Equal e f h k = ap (λ (q : Ordering). match_ordering q true (first_difference_ascends l n) false) (ap (step_cmp s) (sym (step_same t u f)) ∙ e)
apart_trans_at s t u l m n go Less Greater e f h k = cc
apart_trans_at s t u l m n go Equal Less e f h k = ap (λ (q : Ordering). match_ordering q true (first_difference_ascends l n) false) (ap (λ (x : Step). step_cmp x u) (step_same s t e) ∙ f)
apart_trans_at s t u l m n go Equal Equal e f h k = ap (λ (q : Ordering). match_ordering q true (first_difference_ascends l n) false) (ap (λ (x : Step). step_cmp x u) (step_same s t e) ∙ f) ∙ go h k
apart_trans_at s t u l m n go Equal Greater e f h k = cc
apart_trans_at s t u l m n go Greater p e f h k = cc

apart_trans : (l m n : Location) → first_difference_ascends l m ≡ true → first_difference_ascends m n ≡ true → first_difference_ascends l n ≡ true
apart_trans [] m n h k = cc
apart_trans (s ∷ l) [] n h k = cc
apart_trans (s ∷ l) (t ∷ m) [] h k = cc
apart_trans (s ∷ l) (t ∷ m) (u ∷ n) h k = apart_trans_at s t u l m n (apart_trans l m n) (step_cmp s t) (step_cmp t u) refl refl h k

all_apart : (l : Location) (ls : List Location) → AscendFrom l ls → AllByRecursion (λ m. first_difference_ascends l m ≡ true) ls
all_apart l [] h = tt
all_apart l (m ∷ ls) h = (h.0, all_then (λ n. first_difference_ascends m n ≡ true) (λ n. first_difference_ascends l n ≡ true) ls (λ n. apart_trans l m n h.0) (all_apart m ls h.1))

-- ---- they are disjoint

differ : (l m : Location) → first_difference_ascends l m ≡ true → in_one_branch l m ≡ false
differ [] m h = cc
differ (s ∷ l) [] h = cc
differ (s ∷ l) (t ∷ m) h = grind (arith, same_back, differ l m)

ascend_disjoint : (ls : List Location) → Ascend ls → IsDisjoint ls
unfolding IsDistinct
ascend_disjoint [] h = tt
ascend_disjoint (l ∷ ls) h = (all_then (λ m. first_difference_ascends l m ≡ true) (λ m. in_one_branch l m ≡ false) ls (differ l) (all_apart l ls h), ascend_disjoint ls (later ls h))
  where
    later : (ms : List Location) → AscendFrom l ms → Ascend ms
    later [] k = tt
    later (m ∷ ms) k = k.1

-- ---- nodes

pub leads_apart : {T N : Type 0} (bytes : N → List ℕ) (content : T → Document) (places found : List (TreeNode T N)) → Ascend (map (place_location bytes) places)
    → MarksLeadBy true (place_location bytes) (place_value content) (λ doc ls. from_each doc flat ls) places found → MarksLeadBy true (place_location bytes) (place_value content) flattened places found
leads_apart bytes content places found h lead doc ls stand =
    lead doc ls stand ∙ ap (map (look doc)) (sym (apart_has_no_repeat_flat doc ls (disjoint_stands_apart ls (ascend_disjoint ls (subst Ascend (locations-StandAt bytes content doc ls places stand) h)))))

-- ---- the loop: with l the last location, if what is left ascends from it then all do

abbrev pub AscendAfter : Option Location → List Location → Type 0
AscendAfter None left = Ascend left
AscendAfter (Some l) left = AscendFrom l left

both : (last : Option Location) (here : Location) (ls : List Location) → ((l : Location) → last ≡ Some l → first_difference_ascends l here ≡ true) → AscendFrom here ls → AscendAfter last (here ∷ ls)
both None here ls apart h = h
both (Some l) here ls apart h = (apart l refl, h)

pub ascend_next : {A : Type 0} (f : A → Location) (xs : List A) (i : ℕ) (x : A) (last : Option Location) (here : Location) → i < length xs → x ≡ get_or xs i x → here ≡ f x
    → ((l : Location) → last ≡ Some l → first_difference_ascends l here ≡ true) → (AscendAfter last (map f (drop i xs)) → Ascend (map f xs)) → AscendFrom here (map f (drop (i + 1) xs)) → Ascend (map f xs)
ascend_next f xs i x last here within is at apart before h =
    let left : map f (drop i xs) ≡ here ∷ map f (drop (i + 1) xs) =
    ap (map f) (drop-cons xs i x within) ∙ ap₂ (λ (l : Location) (ls : List Location). l ∷ ls) (ap f (sym is) ∙ sym at) (rw add-one refl) in
    before (subst (AscendAfter last) (sym left) (both last here (map f (drop (i + 1) xs)) apart h))
