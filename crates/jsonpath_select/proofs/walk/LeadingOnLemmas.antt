-- What leads on, found by sets: of the places after a step those are kept from which the later steps lead somewhere, and a list needs
-- to go on from these alone.
use Rattle.std.proofs.Common.{◌≡◌, ℕ, zero, suc, ◌<◌, ◌≤◌, Bool, true, false, cond, List, [], ◌∷◌, ◌++◌, length, take, drop, get_or, set, Equal, refl, sym, ap, ap₂, subst, ◌∙◌, arith, drop-cons, drop_of_length-le, filter}
use Rattle.std.specs.Cmp.{Equal-is}
use Rattle.std.specs.List.{AllByRecursion, list_any}
use Rattle.jsonpath_nodes.specs.document.Document.{Document}
use Rattle.jsonpath_nodes.specs.DocumentLaws.{OnceInOrderKeepsMembers}
use Rattle.jsonpath_nodes.specs.place.Location.{Location, location_cmp, is_same}
use Rattle.jsonpath_nodes.specs.place.Order.{IsOrderedDocument}
use Rattle.jsonpath_nodes.specs.step.SameMembers.{SameMembers, StepOfASet, CandidatesOfASet, KeptOfASet, SomeOfASet, EachOnceKeepsMembers, BelowOfTheTopmost, DescentOfTheTopmost, topmost}
use Rattle.jsonpath_nodes.specs.step.Steps.{every, step, all_below, flattened}
use Rattle.jsonpath_paths.specs.tree.Tree.{Inner, Condition, lone, path}
use Rattle.jsonpath_paths.specs.tree.Tree as tree
use Rattle.jsonpath_paths.specs.tree.View.{inner_of, steps_of_list}
use Rattle.jsonpath_paths.specs.declared.tree.parser_node.ParserStep.{ParserStep}
use Rattle.jsonpath_select.specs.Meaning.{follow, inner_on, holds, candidates, is_some_location, has_own_step}
use Rattle.jsonpath_select.specs.Parts.{plain_of}
use Rattle.jsonpath_select.specs.SetMeaning.{HoldsAlike, FollowsWhatLeadsOn}
use Rattle.jsonpath_select.specs.plan.LeadingOn.{AreAt, AreAfterEach, set_along, set_from_root, leads_on, leading_from_root, is_among, leading_to}
use Rattle.jsonpath_select.specs.plan.Machine.{Tagged, places, spread, itself}
use Rattle.jsonpath_select.specs.plan.Manner.{lessened, descent, holds_in}
use Rattle.jsonpath_select.specs.plan.Walk.{led_in, set_after}
use Rattle.jsonpath_select.specs.declared.tagged.marks.TaggedMarks.{TaggedMarks}
use Rattle.jsonpath_select.proofs.MannerLemmas.{lists_hold}
use Rattle.jsonpath_select.proofs.tagged.DistinctLemmas.{IsThere, all_there, all_where, among_is}
use Rattle.jsonpath_select.proofs.walk.LeadingLemmas.{some_lead, step_keeps}
use Rattle.jsonpath_select.proofs.walk.SetMeaningLemmas.{same-itself, same-trans}

-- ---- lists

pub places_filter : (test : Location → Bool) (ps : List Tagged) → places (filter (λ (p : Tagged). test p.1) ps) ≡ filter test (places ps)
places_filter test [] = refl
places_filter test (p ∷ ps) = grind (arith, places_filter test ps)

pub places_itself : (t : ℕ) (ls : List Location) → places (spread itself t ls) ≡ ls
places_itself t [] = refl
places_itself t (l ∷ ls) = ap (λ (ms : List Location). l ∷ ms) (places_itself (suc t) ls)

some_filter : (test : Location → Bool) (ls : List Location) → is_some_location (filter test ls) ≡ list_any test ls
some_filter test [] = refl
some_filter test (l ∷ ls) = grind (arith, some_filter test ls)

abbrev Alike : (Location → Bool) → (Location → Bool) → Location → Type 0
Alike p q l = p l ≡ q l

filter_alike : (p q : Location → Bool) (ls : List Location) → AllByRecursion (Alike p q) ls → filter p ls ≡ filter q ls
filter_alike p q [] all = refl
filter_alike p q (l ∷ ls) all = ap₂ (λ (b : Bool) (ms : List Location). cond b (l ∷ ms) ms) all.0 (filter_alike p q ls all.1)

there_filter : (P : Location → Type 0) (test : Location → Bool) (ls : List Location) → AllByRecursion P ls → AllByRecursion P (filter test ls)
there_filter P test [] all = tt
there_filter P test (l ∷ ls) all = grind (arith, there_filter P test ls all.1)

-- ---- sets along a path

pub next_set : (sets : Bool) (text : List ℕ) (doc : Document) (ss : List ParserStep) (n : ℕ) (s : ParserStep) → n < length ss → s ≡ get_or ss n s → (ls : List Location)
    → set_along sets text doc (take (suc n) ss) ls ≡ set_after sets text doc (inner_of s.inner) s.leaves (set_along sets text doc (take n ss) ls)
next_set sets text doc [] n s within is ls = absurd (omega arith)
next_set sets text doc (x ∷ ss) zero s within is ls = ap (λ (y : ParserStep). set_after sets text doc (inner_of y.inner) y.leaves ls) (sym is)
next_set sets text doc (x ∷ ss) (suc n) s within is ls = next_set sets text doc ss n s (omega arith) is (set_after sets text doc (inner_of x.inner) x.leaves ls)

pub step_left : (ss : List ParserStep) (n : ℕ) (s : ParserStep) → n < length ss → s ≡ get_or ss n s → drop n ss ≡ s ∷ drop (suc n) ss
step_left ss n s within is = drop-cons ss n s within ∙ ap (λ (x : ParserStep). x ∷ drop (suc n) ss) (sym is)

-- ---- one step

-- a step is what it means, in whichever manner conditions are decided
module _ (keeps : OnceInOrderKeepsMembers) (below : BelowOfTheTopmost) (alike : HoldsAlike) (sets : Bool) (text : List ℕ) (doc : Document) (ordered : IsOrderedDocument doc) where
  holds_alike : (f : Condition) (c : Location) → holds_in sets text doc f c ≡ holds text doc f c
  holds_alike f c = by sets
    where
      by : (b : Bool) → holds_in b text doc f c ≡ holds text doc f c
      by true = alike (lessened true) (descent true doc) text doc f c keeps (λ ms. below doc ms ordered)
      by false = lists_hold text doc f c

  pub led_is : (inner : Inner) (leaves : Bool) (ls : List Location) → led_in sets text doc inner leaves ls ≡ inner_on text doc inner leaves ls
  led_is (tree.plain token) leaves ls = refl
  led_is (tree.filter f) leaves ls = λ i. filter (λ c. holds_alike f c i) (candidates doc f (cond leaves (step doc every (all_below doc ls)) ls))

-- what is known of sets, and that conditions hold alike in the manner told
module _ (apart : (l m : Location) → location_cmp l m ≡ Equal → l ≡ m) (keeps : OnceInOrderKeepsMembers) (once_same : EachOnceKeepsMembers) (some_same : SomeOfASet) (step_same : StepOfASet) (flat_same : CandidatesOfASet) (kept_same : KeptOfASet) (below : BelowOfTheTopmost) (lower : DescentOfTheTopmost) (alike : HoldsAlike)
    (sets : Bool) (text : List ℕ) (doc : Document) (ordered : IsOrderedDocument doc) where
  any_at : (P : Location → Bool) (l : Location) (ms : List Location) → IsThere ms l → P l ≡ true → list_any P ms ≡ true
  any_at P l [] there passes = cc
  any_at P l (m ∷ ms) there passes = grind (arith, any_at P l ms, apart l m, (Equal-is (location_cmp l m)).0)

  any_within : (P : Location → Bool) (ls ms : List Location) → AllByRecursion (IsThere ms) ls → list_any P ls ≡ true → list_any P ms ≡ true
  any_within P [] ms all some = cc
  any_within P (l ∷ ls) ms all some = grind (arith, any_at P l ms all.0, any_within P ls ms all.1)

  is_led : (inner : Inner) (leaves : Bool) (ls : List Location) → led_in sets text doc inner leaves ls ≡ inner_on text doc inner leaves ls
  is_led = led_is keeps below alike sets text doc ordered

  topmost_same : (inner : Inner) (leaves : Bool) (ls : List Location) → SameMembers (inner_on text doc inner leaves (cond leaves (topmost ls) ls)) (inner_on text doc inner leaves ls)
  topmost_same inner false ls = same-itself (inner_on text doc inner false ls)
  topmost_same (tree.plain token) true ls = lower doc (plain_of text token) ls ordered
  topmost_same (tree.filter f) true ls = by (has_own_step f)
    where
      by : (own : Bool) → SameMembers (filter (λ c. holds text doc f c) (cond own (flattened doc (step doc every (all_below doc (topmost ls)))) (step doc every (all_below doc (topmost ls)))))
          (filter (λ c. holds text doc f c) (cond own (flattened doc (step doc every (all_below doc ls))) (step doc every (all_below doc ls))))
      by true = kept_same (λ c. holds text doc f c) _ _ (flat_same doc _ _ (lower doc every ls ordered))
      by false = kept_same (λ c. holds text doc f c) _ _ (lower doc every ls ordered)

  after_same : (inner : Inner) (leaves : Bool) (ls : List Location) → SameMembers (set_after sets text doc inner leaves ls) (inner_on text doc inner leaves ls)
  after_same inner leaves ls =
      same-trans (set_after sets text doc inner leaves ls) (led_in sets text doc inner leaves (cond leaves (topmost ls) ls)) (inner_on text doc inner leaves ls)
      (keeps (led_in sets text doc inner leaves (cond leaves (topmost ls) ls)))
      (subst (λ (ms : List Location). SameMembers ms (inner_on text doc inner leaves ls)) (sym (is_led inner leaves (cond leaves (topmost ls) ls))) (topmost_same inner leaves ls))

  -- from places of a set a step leads to places of the next set
  step_within : (inner : Inner) (leaves : Bool) (ls all : List Location) → AllByRecursion (IsThere all) ls → AllByRecursion (IsThere (set_after sets text doc inner leaves all)) (inner_on text doc inner leaves ls)
  step_within inner leaves ls all within =
      all_where (IsThere (inner_on text doc inner leaves ls)) (IsThere (set_after sets text doc inner leaves all)) (inner_on text doc inner leaves ls)
      (λ m there.
      let each : Location → Bool = λ l. list_any (is_same m) (inner_on text doc inner leaves (l ∷ [])) in
      let some : list_any each ls ≡ true = sym (step_keeps apart once_same some_same text doc inner leaves (is_same m) ls).0 ∙ there in
      some_same (is_same m) (set_after sets text doc inner leaves all) (inner_on text doc inner leaves all) (after_same inner leaves all)
      ∙ (step_keeps apart once_same some_same text doc inner leaves (is_same m) all).0 ∙ any_within each ls all within some)
      (all_there [] (inner_on text doc inner leaves ls))

  -- of what is there, those among the places of a set that pass
  among_kept : (test : Location → Bool) (all ls : List Location) → AllByRecursion (IsThere all) ls → filter (is_among (filter test all)) ls ≡ filter test ls
  among_kept test all ls within =
      filter_alike (is_among (filter test all)) test ls (all_where (IsThere all) (Alike (is_among (filter test all)) test) ls (λ l there. among_is apart keeps some_same test all l there) within)

  -- ---- the steps of a path

  module _ (ss : List ParserStep) (n : ℕ) (s : ParserStep) (within : n < length ss) (is : s ≡ get_or ss n s) where
    abbrev here : List Location
    here = set_from_root sets text doc ss n

    abbrev ahead : List Location
    ahead = set_after sets text doc (inner_of s.inner) s.leaves here

    pub kept_ahead : leading_from_root sets text doc ss (suc n) ≡ filter (leads_on text doc ss (suc n)) ahead
    kept_ahead = ap (filter (leads_on text doc ss (suc n))) (next_set sets text doc ss n s within is ([] ∷ []))

    -- what a step leads to among the places that lead on
    led_among : (ls : List Location) → AllByRecursion (IsThere here) ls
        → filter (is_among (leading_from_root sets text doc ss (suc n))) (led_in sets text doc (inner_of s.inner) s.leaves ls) ≡ filter (leads_on text doc ss (suc n)) (inner_on text doc (inner_of s.inner) s.leaves ls)
    led_among ls inside =
        ap₂ (λ (ms ns : List Location). filter (is_among ms) ns) kept_ahead (is_led (inner_of s.inner) s.leaves ls)
        ∙ among_kept (leads_on text doc ss (suc n)) ahead (inner_on text doc (inner_of s.inner) s.leaves ls) (step_within (inner_of s.inner) s.leaves ls here inside)

    leads_from : (c : Location) → IsThere here c → is_some_location (filter (is_among (leading_from_root sets text doc ss (suc n))) (led_in sets text doc (inner_of s.inner) s.leaves (c ∷ []))) ≡ leads_on text doc ss n c
    leads_from c there =
        ap is_some_location (led_among (c ∷ []) (there, tt))
        ∙ some_filter (leads_on text doc ss (suc n)) (inner_on text doc (inner_of s.inner) s.leaves (c ∷ []))
        ∙ sym (some_lead apart once_same some_same text doc (steps_of_list (drop (suc n) ss)) (inner_on text doc (inner_of s.inner) s.leaves (c ∷ [])))
        ∙ sym (ap (λ (rest : List ParserStep). holds text doc (lone (path false (steps_of_list rest))) c) (step_left ss n s within is))

    -- the places that lead on are those from which the step leads to the next ones that lead on
    pub leading_back : leading_to sets text doc (inner_of s.inner) s.leaves (leading_from_root sets text doc ss (suc n)) (set_from_root sets text doc ss n) ≡ leading_from_root sets text doc ss n
    leading_back =
        filter_alike (λ c. is_some_location (filter (is_among (leading_from_root sets text doc ss (suc n))) (led_in sets text doc (inner_of s.inner) s.leaves (c ∷ [])))) (leads_on text doc ss n) here
        (all_where (IsThere here) (Alike (λ c. is_some_location (filter (is_among (leading_from_root sets text doc ss (suc n))) (led_in sets text doc (inner_of s.inner) s.leaves (c ∷ [])))) (leads_on text doc ss n)) here leads_from (all_there [] here))

    -- a list goes on among the places that lead on
    pub list_within : (ls : List Location) → AllByRecursion (IsThere (set_from_root sets text doc ss n)) ls
        → AllByRecursion (IsThere (set_from_root sets text doc ss (suc n))) (filter (is_among (leading_from_root sets text doc ss (suc n))) (led_in sets text doc (inner_of s.inner) s.leaves ls))
    list_within ls inside =
        subst (λ (all : List Location). AllByRecursion (IsThere all) (filter (is_among (leading_from_root sets text doc ss (suc n))) (led_in sets text doc (inner_of s.inner) s.leaves ls))) (sym (next_set sets text doc ss n s within is ([] ∷ [])))
        (subst (AllByRecursion (IsThere ahead)) (sym (led_among ls inside))
        (there_filter (IsThere ahead) (leads_on text doc ss (suc n)) (inner_on text doc (inner_of s.inner) s.leaves ls) (step_within (inner_of s.inner) s.leaves ls here inside)))

    pub list_follows : FollowsWhatLeadsOn → (ls all : List Location) → AllByRecursion (IsThere (set_from_root sets text doc ss n)) ls → follow text doc (steps_of_list (drop n ss)) ls ≡ all
        → follow text doc (steps_of_list (drop (suc n) ss)) (filter (is_among (leading_from_root sets text doc ss (suc n))) (led_in sets text doc (inner_of s.inner) s.leaves ls)) ≡ all
    list_follows law ls all inside follows =
        ap (follow text doc (steps_of_list (drop (suc n) ss))) (led_among ls inside)
        ∙ sym (law text doc (steps_of_list (drop (suc n) ss)) (inner_on text doc (inner_of s.inner) s.leaves ls))
        ∙ sym (ap (λ (rest : List ParserStep). follow text doc (steps_of_list rest) ls) (step_left ss n s within is)) ∙ follows

-- no steps lead from each place to itself
pub all_lead : (text : List ℕ) (doc : Document) (ls : List Location) → ls ≡ filter (λ l. holds text doc (lone (path false tree.no_steps)) l) ls
all_lead text doc [] = refl
all_lead text doc (l ∷ ls) = ap (λ (ms : List Location). l ∷ ms) (all_lead text doc ls)

-- behind the last step all places lead on
pub last_leads : (sets : Bool) (text : List ℕ) (doc : Document) (ss : List ParserStep) (n : ℕ) → length ss ≤ n → set_from_root sets text doc ss n ≡ leading_from_root sets text doc ss n
last_leads sets text doc ss n over =
    let none : drop n ss ≡ [] = drop_of_length-le ss {i = n} over in
    all_lead text doc (set_from_root sets text doc ss n) ∙ sym (ap (λ (rest : List ParserStep). filter (λ l. holds text doc (lone (path false (steps_of_list rest))) l) (set_from_root sets text doc ss n)) none)

-- ---- how the places are held

module _ {M : Type 0} (located : Bool) (stand_of : M → Location) (content_of : M → Document) (doc : Document) where
  abbrev Stands : List Location → TaggedMarks M → Type 0
  Stands ls found = AreAt located stand_of content_of doc ls found

  pub push_each : (f : ℕ → List Location) (all : List (TaggedMarks M)) (x : TaggedMarks M) → AreAfterEach located stand_of content_of doc f all → Stands (f (suc (length all))) x → AreAfterEach located stand_of content_of doc f (all ++ x ∷ [])
  push_each f [] x each last zero t within = last
  push_each f [] x each last (suc k) t within = absurd (omega arith)
  push_each f (a ∷ all) x each last zero t within = each 0 t (omega arith)
  push_each f (a ∷ all) x each last (suc k) t within = push_each (λ n. f (suc n)) all x (λ j u inside. each (suc j) u (omega arith)) last k t (omega arith)

  -- the sets before a step are whole, and those from there on are of places that lead on
  abbrev pub BackTo : (ℕ → List Location) → (ℕ → List Location) → ℕ → List (TaggedMarks M) → Type 0
  BackTo whole left n all = ((k : ℕ) (t : TaggedMarks M) → suc k < n → Stands (whole (suc k)) (get_or all k t)) × ((k : ℕ) (t : TaggedMarks M) → n ≤ suc k → k < length all → Stands (left (suc k)) (get_or all k t))

  pub back_one : (whole left : ℕ → List Location) (m : ℕ) (all : List (TaggedMarks M)) (x : TaggedMarks M) → suc m < length all → Stands (left (suc m)) x → BackTo whole left (suc (suc m)) all → BackTo whole left (suc m) (set all m x)
  back_one whole left m [] x within new back = absurd (omega arith)
  back_one whole left zero (a ∷ all) x within new back = (λ k t before. absurd (omega arith), first)
    where
      first : (k : ℕ) (t : TaggedMarks M) → 1 ≤ suc k → k < suc (length all) → Stands (left (suc k)) (get_or (x ∷ all) k t)
      first zero t from inside = new
      first (suc k) t from inside = back.1 (suc k) t (omega arith) inside
  back_one whole left (suc m) (a ∷ all) x within new back = by (back_one (λ n. whole (suc n)) (λ n. left (suc n)) m all x (omega arith) new (λ k t before. back.0 (suc k) t (omega arith), λ k t from inside. back.1 (suc k) t (omega arith) (omega arith)))
    where
      by : BackTo (λ n. whole (suc n)) (λ n. left (suc n)) (suc m) (set all m x) → BackTo whole left (suc (suc m)) (a ∷ set all m x)
      by later = (before, after)
        where
          before : (k : ℕ) (t : TaggedMarks M) → suc k < suc (suc m) → Stands (whole (suc k)) (get_or (a ∷ set all m x) k t)
          before zero t inside = back.0 0 t (omega arith)
          before (suc k) t inside = later.0 k t (omega arith)

          after : (k : ℕ) (t : TaggedMarks M) → suc (suc m) ≤ suc k → k < suc (length (set all m x)) → Stands (left (suc k)) (get_or (a ∷ set all m x) k t)
          after zero t from inside = absurd (omega arith)
          after (suc k) t from inside = later.1 k t (omega arith) (omega arith)
