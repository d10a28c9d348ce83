-- What marks see, by what spots see.
use Rattle.std.proofs.Common.{◌≡◌, ℕ, ◌≤◌, List, [], ◌∷◌, ◌++◌, map, length, drop, Bool, true, false, Option, Some, refl, sym, ap, ap₂, ◌∙◌, append-nil, drop_of_length-le, arith, rules}
use Rattle.std.specs.Prelude.{flat_map, option_map, unwrap_or}
use Rattle.std.proofs.lemmas.List.{map-append}
use Rattle.std.proofs.lemmas.Simd.{map-map}
use Rattle.jsonpath_nodes.specs.document.Document.{Document, array, object, Items, no_items, Members, no_members}
use Rattle.jsonpath_nodes.specs.place.Location.{Location, at, below}
use Rattle.jsonpath_nodes.specs.place.Order.{NamesAscend}
use Rattle.jsonpath_nodes.specs.step.Steps.{Plain, every, single_steps, from, from_each, step, all_below, deep}
use Rattle.jsonpath_nodes.specs.place.SpotPlace.{LeadsBy, location_of, look, look_from, sight_of, value_of}
use Rattle.jsonpath_nodes.specs.place.SpotPlace.{Spot}
use Rattle.jsonpath_nodes.specs.place.Mark.{kept_location, shown, look_kept, look_kept_from, MarksStandAt, MarksLeadBy, seen_from_each}
use Rattle.jsonpath_nodes.proofs.place.SightLemmas.{Sight, kid_sights, items-sights, members-sights, items_children-sights, members_children-sights}
use Rattle.jsonpath_nodes.proofs.step.ChildLemmas.{Kid, through, item_kids, member_kids, itself}
use Rattle.jsonpath_nodes.proofs.step.DeepLemmas.{gathered_items, gathered_members}
use Rattle.jsonpath_nodes.proofs.step.ListLemmas.{from_each-twice}
use Rattle.jsonpath_nodes.proofs.place.LeadLemmas.{look-below}
use Rattle.jsonpath_nodes.proofs.step.NowhereLemmas.{IsLeaf, leaf_selects, leaf_gathered, nothing_at_leaf, nothing_in_leaves, nothing_gained}
use Rattle.jsonpath_nodes.specs.plan.Containers.{some_container}
use Rattle.jsonpath_nodes.specs.plan.Gathered.{Gathered, gathered_at, all_gathered}

-- ---- what is kept of a sight

abbrev pub keep : Bool → Sight → Sight
keep b s = (kept_location b s.0, s.1)

pub kept-twice : (b : Bool) (l m : Location) → kept_location b (kept_location b l ++ m) ≡ kept_location b (l ++ m)
kept-twice b l m = grind arith

pub seen : (b : Bool) (l : Location) (d : Document) (ms : List Location) → map (look_kept_from b l d) ms ≡ map (keep b) (map (look_from l d) ms)
seen b l d ms = sym (map-map (keep b) (look_from l d) ms)

pub seen-kept : (b : Bool) (l : Location) (d : Document) (ms : List Location) → map (look_kept_from b (kept_location b l) d) ms ≡ map (keep b) (map (look_from l d) ms)
seen-kept b l d [] = refl
seen-kept b l d (m ∷ ms) = ap₂ (λ (k : Location) (xs : List Sight). (k, at d m) ∷ xs) (kept-twice b l m) (seen-kept b l d ms)

-- ---- f at each child in turn

abbrev seen_kids : Bool → (Document → List Location) → Location → List Kid → List Sight
seen_kids b f l [] = []
seen_kids b f l (k ∷ ks) = map (look_kept_from b (kept_location b (l ++ k.0 ∷ [])) k.1) (f k.1) ++ seen_kids b f l ks

abbrev pub seen_items : Bool → (Document → List Location) → Location → ℕ → Items → List Sight
seen_items b f l n ds = seen_kids b f l (item_kids n ds)

abbrev pub seen_members : Bool → (Document → List Location) → Location → Members → List Sight
seen_members b f l ms = seen_kids b f l (member_kids ms)

-- the children themselves
abbrev shown_kids : Bool → Location → List Kid → List Sight
shown_kids b l [] = []
shown_kids b l (k ∷ ks) = (kept_location b (l ++ k.0 ∷ []), Some k.1) ∷ shown_kids b l ks

abbrev pub shown_items : Bool → Location → ℕ → Items → List Sight
shown_items b l n ds = shown_kids b l (item_kids n ds)

abbrev pub shown_members : Bool → Location → Members → List Sight
shown_members b l ms = shown_kids b l (member_kids ms)

seen_kids-sights : (b : Bool) (f : Document → List Location) (l : Location) (ks : List Kid) → seen_kids b f l ks ≡ map (keep b) (kid_sights f l ks)
seen_kids-sights b f l [] = refl
seen_kids-sights b f l (k ∷ ks) = grind (arith, map-append, seen-kept, seen_kids-sights b f l ks)

shown_kids-sights : (b : Bool) (l : Location) (ks : List Kid) → shown_kids b l ks ≡ map (keep b) (kid_sights itself l ks)
shown_kids-sights b l [] = refl
shown_kids-sights b l (k ∷ ks) = ap₂ (λ (m : Location) (xs : List Sight). (kept_location b m, Some k.1) ∷ xs) (sym (append-nil (l ++ k.0 ∷ []))) (shown_kids-sights b l ks)

-- ---- as the contracts say them

pub children_of_items : (b : Bool) (l : Location) (all : Items) → shown_items b l 0 all ≡ map (look_kept_from b l (array all)) (single_steps every (array all))
children_of_items b l all = grind (arith, items_children-sights, seen, shown_kids-sights)

pub children_of_members : (b : Bool) (l : Location) (ms : Members) → NamesAscend ms → shown_members b l ms ≡ map (look_kept_from b l (object ms)) (single_steps every (object ms))
children_of_members b l ms h = grind (arith, members_children-sights, seen, shown_kids-sights)

gathered_of_kids : (b : Bool) (own : Document → List Location) (l : Location) (d : Document) (ks : List Kid)
    → map (look_from l d) (all_gathered own d) ≡ map (look_from l d) (own d) ++ kid_sights (all_gathered own) l ks
    → map (look_kept_from b l d) (all_gathered own d) ≡ map (look_kept_from b l d) (own d) ++ seen_kids b (all_gathered own) l ks
gathered_of_kids b own l d ks is = grind (arith, map-append, seen, seen_kids-sights)

pub gathered_of_items : (b : Bool) (own : Document → List Location) (l : Location) (all : Items)
    → map (look_kept_from b l (array all)) (all_gathered own (array all)) ≡ map (look_kept_from b l (array all)) (own (array all)) ++ seen_items b (all_gathered own) l 0 all
gathered_of_items b own l all = gathered_of_kids b own l (array all) (item_kids 0 all) (gathered_items own l all)

pub gathered_of_members : (b : Bool) (own : Document → List Location) (l : Location) (ms : Members) → NamesAscend ms
    → map (look_kept_from b l (object ms)) (all_gathered own (object ms)) ≡ map (look_kept_from b l (object ms)) (own (object ms)) ++ seen_members b (all_gathered own) l ms
gathered_of_members b own l ms h = gathered_of_kids b own l (object ms) (member_kids ms) (gathered_members own l ms h)

-- ---- the ends of the loops, for whatever stands for the children (seen_items, shown_items, ..)

pub items_end : (child_sights : ℕ → Items → List Sight) (i : ℕ) (left all : Items) (before out after : List Sight) → ((n : ℕ) → child_sights n no_items ≡ []) → left ≡ no_items
    → out ++ child_sights i left ≡ before ++ child_sights 0 all → child_sights 0 all ≡ after → out ≡ before ++ after
items_end child_sights i left all before out after no_more none invariant is =
    sym (append-nil out) ∙ ap (λ (ws : List Sight). out ++ ws) (sym (no_more i)) ∙ ap (λ (ws : Items). out ++ child_sights i ws) (sym none) ∙ invariant ∙ ap (λ (ss : List Sight). before ++ ss) is

pub members_end : (child_sights : Members → List Sight) (left all : Members) (before out after : List Sight) → child_sights no_members ≡ [] → left ≡ no_members
    → out ++ child_sights left ≡ before ++ child_sights all → child_sights all ≡ after → out ≡ before ++ after
members_end child_sights left all before out after no_more none invariant is =
    sym (append-nil out) ∙ ap (λ (ws : List Sight). out ++ ws) (sym no_more) ∙ ap (λ (ws : Members). out ++ child_sights ws) (sym none) ∙ invariant ∙ ap (λ (ss : List Sight). before ++ ss) is

-- after the loop, at the place where the way began: own is what f gives through the children
pub items_gained : (b : Bool) (f : Document → List Location) (there here : Location) (i : ℕ) (left all : Items) (before out : List Sight) (own : List Location) → there ≡ here → left ≡ no_items
    → out ++ seen_items b f there i left ≡ before ++ seen_items b f there 0 all → own ≡ through f (item_kids 0 all) → out ≡ before ++ map (look_kept_from b here (array all)) own
items_gained b f there here i left all before out own same none invariant is = search (rules, arith, item_kids, items-sights, items_end, seen, seen_kids-sights)

pub members_gained : (b : Bool) (f : Document → List Location) (there here : Location) (left all : Members) (before out : List Sight) (own : List Location) → NamesAscend all → there ≡ here → left ≡ no_members
    → out ++ seen_members b f there left ≡ before ++ seen_members b f there all → own ≡ through f (member_kids all) → out ≡ before ++ map (look_kept_from b here (object all)) own
members_gained b f there here left all before out own ascend same none invariant is = search (rules, arith, member_kids, members-sights, members_end, seen, seen_kids-sights)

-- ---- lists of marks in a document

looked : (b : Bool) (doc : Document) (ls : List Location) → map (keep b) (map (look doc) ls) ≡ map (look_kept b doc) ls
looked b doc ls = map-map (keep b) (look doc) ls

-- what f sees from a mark of a document is what stands there
seen-from : {M : Type 0} (b : Bool) (stand : M → Location) (content : M → Document) (doc : Document) (f : Document → List Location) (l : Location) (m : M) → shown stand content m ≡ look_kept b doc l
    → map (look_kept_from b (stand m) (content m)) (f (content m)) ≡ map (look_kept b doc) (from doc f l)
seen-from b stand content doc f l m h =
    let same : stand m ≡ kept_location b l = ap (λ (x : Sight). x.0) h in
    let there : at doc l ≡ Some (content m) = sym (ap (λ (x : Sight). x.1) h) in
    ap (λ (k : Location). map (look_kept_from b k (content m)) (f (content m))) same
    ∙ seen-kept b l (content m) (f (content m))
    ∙ ap (map (keep b)) (look-below doc l (content m) (f (content m)) there)
    ∙ looked b doc (map (λ k. l ++ k) (f (content m)))
    ∙ ap (λ (o : Option Document). map (look_kept b doc) (map (λ k. l ++ k) (unwrap_or (option_map f o) []))) (sym there)

pub seen-from_each : {M : Type 0} (b : Bool) (stand : M → Location) (content : M → Document) (doc : Document) (f : Document → List Location) (ls : List Location) (marks : List M) → MarksStandAt b stand content doc ls marks
    → seen_from_each b stand content f marks ≡ map (look_kept b doc) (from_each doc f ls)
seen-from_each b stand content doc f [] [] h = refl
seen-from_each b stand content doc f [] (m ∷ marks) h = cc
seen-from_each b stand content doc f (l ∷ ls) [] h = cc
seen-from_each b stand content doc f (l ∷ ls) (m ∷ marks) h =
    let here : shown stand content m ≡ look_kept b doc l = cc in
    let later : MarksStandAt b stand content doc ls marks = cc in
    ap₂ (λ (x y : List Sight). x ++ y) (seen-from b stand content doc f l m here) (seen-from_each b stand content doc f ls marks later)
    ∙ sym (map-append (look_kept b doc) (from doc f l) (from_each doc f ls))

-- at the end of a loop over the marks
pub marks_lead : {M : Type 0} (b : Bool) (stand : M → Location) (content : M → Document) (f : Document → List Location) (i : ℕ) (marks found : List M) → length marks ≤ i
    → map (shown stand content) found ++ seen_from_each b stand content f (drop i marks) ≡ seen_from_each b stand content f marks → MarksLeadBy b stand content (λ doc ls. from_each doc f ls) marks found
marks_lead b stand content f i marks found over invariant doc ls stand_there =
    let none : drop i marks ≡ [] = drop_of_length-le marks {i = i} over in
    sym (append-nil (map (shown stand content) found)) ∙ ap (λ ws. map (shown stand content) found ++ seen_from_each b stand content f ws) (sym none) ∙ invariant
    ∙ seen-from_each b stand content doc f ls marks stand_there

pub marks_lead_deep : {M : Type 0} (b : Bool) (stand : M → Location) (content : M → Document) (p : Plain) (i : ℕ) (marks found : List M) → length marks ≤ i
    → map (shown stand content) found ++ seen_from_each b stand content (deep p) (drop i marks) ≡ seen_from_each b stand content (deep p) marks → MarksLeadBy b stand content (λ doc ls. step doc p (all_below doc ls)) marks found
marks_lead_deep b stand content p i marks found over invariant doc ls stand_there =
    marks_lead b stand content (deep p) i marks found over invariant doc ls stand_there
    ∙ ap (map (look_kept b doc)) (sym (from_each-twice doc (single_steps p) below ls))

-- so it is from spots
abbrev pub sights_from_each : (Document → List Location) → List Spot → List Sight
sights_from_each f spots = flat_map (λ s. map (look_from (location_of s) (value_of s)) (f (value_of s))) spots

pub leads : (f : Document → List Location) (s : Spot) (found : List Spot) → map sight_of found ≡ map (look_from (location_of s) (value_of s)) (f (value_of s)) → LeadsBy (λ doc ls. from_each doc f ls) (s ∷ []) found
leads f s found h doc ls stand = h ∙ sym (append-nil (map (look_from (location_of s) (value_of s)) (f (value_of s)))) ∙ seen-from_each true location_of value_of doc f ls (s ∷ []) stand

-- ---- steps that lead nowhere

pub nothing_seen : (b : Bool) (what : Gathered) (l : Location) (ms : Members) → some_container ms ≡ false → seen_members b (all_gathered (gathered_at what)) l ms ≡ []
nothing_seen b what l ms none = grind (arith, nothing_at_leaf, nothing_in_leaves, seen_kids-sights)

pub leaf_step : (b : Bool) (p : Plain) (l : Location) (d : Document) (before : List Sight) → IsLeaf d → before ≡ before ++ map (look_kept_from b l d) (single_steps p d)
leaf_step b p l d before leaf = nothing_gained b l d before (single_steps p d) (leaf_selects p d leaf)

pub leaf_gathered_step : (b : Bool) (what : Gathered) (l : Location) (d : Document) (before : List Sight) → IsLeaf d
    → before ≡ before ++ map (look_kept_from b l d) (all_gathered (gathered_at what) d)
leaf_gathered_step b what l d before leaf = nothing_gained b l d before (all_gathered (gathered_at what) d) (leaf_gathered (gathered_at what) d leaf (nothing_at_leaf what d leaf))
