-- The candidates after `..*` in one descent, child by child and from a mark.
use Rattle.std.proofs.Common.{◌≡◌, ℕ, suc, List, [], ◌∷◌, ◌++◌, map, Bool, Some, None, refl, sym, ap, ap₂, ◌∙◌, append-nil, subst, arith}
use Rattle.std.proofs.lemmas.List.{map-append}
use Rattle.jsonpath_nodes.specs.document.Document.{Document, array, object, Items, no_items, item, Members, no_members, member}
use Rattle.jsonpath_nodes.specs.document.Find.{as_array}
use Rattle.jsonpath_nodes.specs.step.Candidates.{flat_members, in_objects, in_objects_items, in_objects_members, candidates_below}
use Rattle.jsonpath_nodes.specs.plan.Gathered.{all_gathered, flat_in_object}
use Rattle.jsonpath_nodes.specs.place.Location.{name, index, Location, at, flat}
use Rattle.jsonpath_nodes.specs.place.Mark.{MarksGain, kept_location, shown, look_kept, look_kept_from, MarksLeadBy}
use Rattle.jsonpath_nodes.specs.place.Order.{IsOrderedDocument, AreOrderedDocuments, HoldOrderedDocuments}
use Rattle.jsonpath_nodes.specs.step.Steps.{from, from_each, every, step, all_below, flattened}
use Rattle.jsonpath_nodes.proofs.place.KeptLemmas.{seen-from_each}
use Rattle.jsonpath_nodes.proofs.step.ChildLemmas.{through, item_kids, member_kids}
use Rattle.jsonpath_nodes.proofs.step.DeepLemmas.{items_through, members_through}
use Rattle.jsonpath_nodes.proofs.step.OneDescentLemmas.{from_one}
use Rattle.jsonpath_nodes.proofs.step.SeparateLemmas.{apart_has_no_repeat_flat, one_is_apart}
use Rattle.jsonpath_nodes.proofs.place.SightLemmas.{Sight}

-- ---- child by child

-- what is flat in the objects of a document, as one descent gathers it
mutual
  pub flat_gathered : (d : Document) → IsOrderedDocument d → all_gathered flat_in_object d ≡ in_objects d
  flat_gathered (array ds) h = items_through flat_in_object ds ∙ items_gathered 0 ds h
  flat_gathered (object ms) h = members_through flat_in_object ms h.0 ∙ ap (λ (ls : List Location). flat_members ms ++ ls) (members_gathered ms h.1)
  flat_gathered _ h = refl

  items_gathered : (n : ℕ) (ds : Items) → AreOrderedDocuments ds → through (all_gathered flat_in_object) (item_kids n ds) ≡ in_objects_items n ds
  items_gathered n no_items h = refl
  items_gathered n (item d ds) h = ap₂ (λ (x y : List Location). map (λ l. index n ∷ l) x ++ y) (flat_gathered d h.0) (items_gathered (suc n) ds h.1)

  members_gathered : (ms : Members) → HoldOrderedDocuments ms → through (all_gathered flat_in_object) (member_kids ms) ≡ in_objects_members ms
  members_gathered no_members h = refl
  members_gathered (member k d ms) h = ap₂ (λ (x y : List Location). map (λ l. name k ∷ l) x ++ y) (flat_gathered d h.0) (members_gathered ms h.1)

-- ---- what is no array

flat_single : (d : Document) → as_array d ≡ None → flat d ≡ [] ∷ []
flat_single d h = grind arith

pub flat_itself : {M : Type 0} (b : Bool) (stand : M → Location) (content : M → Document) (m copy : M) (before after : List M) → as_array (content m) ≡ None → after ≡ before ++ copy ∷ []
    → shown stand content copy ≡ (kept_location b (stand m), Some (content m)) → MarksGain b stand content flat (stand m) (content m) before after
flat_itself b stand content m copy before after no_array pushed same =
    ap (map (shown stand content)) pushed ∙ map-append (shown stand content) before (copy ∷ []) ∙ ap (λ (s : Sight). map (shown stand content) before ++ s ∷ []) same
    ∙ ap (λ (l : Location). map (shown stand content) before ++ (kept_location b l, Some (content m)) ∷ []) (sym (append-nil (stand m)))
    ∙ ap (λ (ls : List Location). map (shown stand content) before ++ map (look_kept_from b (stand m) (content m)) ls) (sym (flat_single (content m) no_array))

-- ---- from one mark of a document

-- a list that was empty has gained what f sees of one mark
marks_from_one : {M : Type 0} (b : Bool) (stand : M → Location) (content : M → Document) (f : Document → List Location) (g : Document → List Location → List Location) (m : M) (before found : List M) → before ≡ []
    → MarksGain b stand content f (stand m) (content m) before found → ((doc : Document) (l : Location) → at doc l ≡ Some (content m) → g doc (l ∷ []) ≡ from_each doc f (l ∷ [])) → MarksLeadBy b stand content g (m ∷ []) found
marks_from_one b stand content f g m before found none gained same doc (l ∷ []) there =
    let here : shown stand content m ≡ look_kept b doc l = cc in
    let seen = map (look_kept_from b (stand m) (content m)) (f (content m)) in
    gained ∙ ap (λ ms. map (shown stand content) ms ++ seen) none ∙ sym (append-nil seen) ∙ seen-from_each b stand content doc f (l ∷ []) (m ∷ []) there
    ∙ ap (map (look_kept b doc)) (sym (same doc l (sym (ap (λ (x : Sight). x.1) here))))
marks_from_one b stand content f g m before found none gained same doc _ there = cc

pub marks_below : {M : Type 0} (b : Bool) (stand : M → Location) (content : M → Document) (m : M) (before found : List M) → before ≡ [] → IsOrderedDocument (content m)
    → MarksGain b stand content candidates_below (stand m) (content m) before found → MarksLeadBy b stand content (λ doc ls. flattened doc (step doc every (all_below doc ls))) (m ∷ []) found
marks_below b stand content m before found none document gained =
    marks_from_one b stand content candidates_below (λ doc ls. flattened doc (step doc every (all_below doc ls))) m before found none gained
    (λ doc l there. from_one doc l (λ d is. let same : content m ≡ d = cc in subst IsOrderedDocument same document) ∙ sym (append-nil (from doc candidates_below l)))

pub marks_flat : {M : Type 0} (b : Bool) (stand : M → Location) (content : M → Document) (m : M) (before found : List M) → before ≡ []
    → MarksGain b stand content flat (stand m) (content m) before found → MarksLeadBy b stand content flattened (m ∷ []) found
marks_flat b stand content m before found none gained =
    marks_from_one b stand content flat flattened m before found none gained (λ doc l there. apart_has_no_repeat_flat doc (l ∷ []) (one_is_apart l))
