-- The candidates after `..*` in one descent.
use Rattle.std.proofs.Common.{◌≡◌, ℕ, suc, List, [], ◌∷◌, ◌++◌, map, Option, Some, None, false, refl, sym, ap, ap₂, ◌∙◌, append_assoc, append-nil, subst, arith, rules}
use Rattle.std.specs.Prelude.{option_map, unwrap_or}
use Rattle.std.specs.List.{AllByRecursion}
use Rattle.jsonpath_nodes.specs.document.Document.{Document, array, object, Items, no_items, item, Members, no_members, member}
use Rattle.jsonpath_nodes.proofs.update.SetLemmas.{same_back}
use Rattle.jsonpath_nodes.specs.place.Location.{Step, name, index, Location, at, below, flat, flat_items}
use Rattle.jsonpath_nodes.specs.place.Order.{IsOrderedDocument, AreOrderedDocuments, HoldOrderedDocuments}
use Rattle.jsonpath_nodes.specs.step.Steps.{every, single_steps, step, from, from_each, all_below, each_once, each_once_after, flattened}
use Rattle.jsonpath_nodes.specs.update.Topmost.{same_step, under}
use Rattle.jsonpath_nodes.proofs.step.SeparateLemmas.{apart_has_no_repeat_flat, one_is_apart}
use Rattle.jsonpath_nodes.specs.step.Candidates.{flat_members, in_objects, in_objects_items, in_objects_members, candidates_below}
use Rattle.jsonpath_nodes.proofs.step.DeepLemmas.{items_through, members_through}
use Rattle.jsonpath_nodes.specs.plan.Gathered.{all_gathered}
use Rattle.jsonpath_nodes.proofs.step.ListLemmas.{map-nothing, from_each-twice}
use Rattle.jsonpath_nodes.proofs.step.RepeatLemmas.{each_once_after-append, nothing_new_after, under-append, under-same, under-other, each_once_after-step, each_once-deeper}
use Rattle.jsonpath_nodes.proofs.step.ChildLemmas.{Kid, through, itself, flat_items-kids, flat_members-kids, indexes-kids, names-kids, item_kids, member_kids, AreAt, AreDistinct, all_items_at, items_distinct, members_at, members_distinct}

-- ---- with repeats

-- what is flat from each child
abbrev flattened_from_each : Document → List Location
flattened_from_each d = from_each d flat (single_steps every d)

from_kids : (d : Document) (f : Document → List Location) (ks : List Kid) → AreAt d ks → from_each d f (through itself ks) ≡ through f ks
from_kids d f [] h = refl
from_kids d f (k ∷ ks) h = grind (arith, from_kids d f ks h.1)

flattened_from_each-items : (ds : Items) → flattened_from_each (array ds) ≡ flat_items 0 ds
flattened_from_each-items ds = ap (from_each (array ds) flat) (indexes-kids 0 ds) ∙ from_kids (array ds) flat (item_kids 0 ds) (all_items_at ds) ∙ sym (flat_items-kids 0 ds)

flattened_from_each-members : (ms : Members) → IsOrderedDocument (object ms) → flattened_from_each (object ms) ≡ flat_members ms
flattened_from_each-members ms h = ap (from_each (object ms) flat) (names-kids ms) ∙ from_kids (object ms) flat (member_kids ms) (members_at ms h.0) ∙ sym (flat_members-kids ms)

-- and then the same at each child
abbrev pub all_candidates : Document → List Location
all_candidates d = all_gathered flattened_from_each d

repeated-items : (ds : Items) → all_candidates (array ds) ≡ flat_items 0 ds ++ through all_candidates (item_kids 0 ds)
repeated-items ds = items_through flattened_from_each ds ∙ ap (λ (ls : List Location). ls ++ through all_candidates (item_kids 0 ds)) (flattened_from_each-items ds)

repeated-members : (ms : Members) → IsOrderedDocument (object ms) → all_candidates (object ms) ≡ flat_members ms ++ through all_candidates (member_kids ms)
repeated-members ms h = members_through flattened_from_each ms h.0 ∙ ap (λ (ls : List Location). ls ++ through all_candidates (member_kids ms)) (flattened_from_each-members ms h)

-- ---- each once

-- nothing goes through their steps
abbrev IsClear : List Location → List Kid → Type 0
IsClear before ks = AllByRecursion (λ k. under k.0 before ≡ []) ks

-- through each of their steps goes exactly what is flat there
abbrev IsFlat : List Location → List Kid → Type 0
IsFlat before ks = AllByRecursion (λ k. under k.0 before ≡ flat k.1) ks

whole : (d : Document) → from_each d flat ([] ∷ []) ≡ flat d
whole d = append-nil (map (λ (m : Location). [] ++ m) (flat d)) ∙ map-nothing (flat d)

pub flat_alone : (d : Document) → flattened d ([] ∷ []) ≡ flat d
flat_alone d = apart_has_no_repeat_flat d ([] ∷ []) (one_is_apart []) ∙ whole d

flat_candidates_once : (d : Document) → each_once (flat d) ≡ flat d
flat_candidates_once d = ap each_once (sym (whole d)) ∙ flat_alone d

-- what goes through s, beside the steps of the others, changes nothing for them
beside : (s : Step) (before xs : List Location) (ks : List Kid) (P : Kid → List Location) → AllByRecursion (λ t. same_step s t.0 ≡ false) ks → AllByRecursion (λ k. under k.0 before ≡ P k) ks
    → AllByRecursion (λ k. under k.0 (before ++ map (λ (l : Location). s ∷ l) xs) ≡ P k) ks
beside s before xs [] P apart h = tt
beside s before xs (k ∷ ks) P apart h = search (rules, arith, under-append, under-other, beside s before xs ks P apart.1 h.1)

one_once : (before : List Location) (s : Step) (xs ys rest rest' : List Location) → each_once_after (under s before) xs ≡ ys → each_once_after (before ++ map (λ (l : Location). s ∷ l) ys) rest ≡ rest'
    → each_once_after before (map (λ (l : Location). s ∷ l) xs ++ rest) ≡ map (λ (l : Location). s ∷ l) ys ++ rest'
one_once before s xs ys rest rest' here later =
    let kept : each_once_after before (map (λ (l : Location). s ∷ l) xs) ≡ map (λ (l : Location). s ∷ l) ys = each_once_after-step s before xs ∙ ap (map (λ (l : Location). s ∷ l)) here in
    each_once_after-append before (map (λ (l : Location). s ∷ l) xs) rest
    ∙ ap₂ (λ (x y : List Location). x ++ y) kept (ap (λ (ls : List Location). each_once_after (before ++ ls) rest) kept ∙ later)

through_once : (before : List Location) (ks : List Kid) → AreDistinct ks → IsClear before ks → each_once_after before (through flat ks) ≡ through flat ks
through_once before [] apart h = refl
through_once before (k ∷ ks) apart h =
    one_once before k.0 (flat k.1) (flat k.1) (through flat ks) (through flat ks) (ap (λ (ls : List Location). each_once_after ls (flat k.1)) h.0 ∙ flat_candidates_once k.1)
    (through_once (before ++ map (λ (l : Location). k.0 ∷ l) (flat k.1)) ks apart.1 (beside k.0 before (flat k.1) ks (λ t. []) apart.0 h.1))

through_other : (s : Step) (ks : List Kid) → AllByRecursion (λ t. same_step s t.0 ≡ false) ks → under s (through flat ks) ≡ []
through_other s [] h = refl
through_other s (k ∷ ks) h =
    under-append s (map (λ (l : Location). k.0 ∷ l) (flat k.1)) (through flat ks)
    ∙ ap₂ (λ (x y : List Location). x ++ y) (under-other s k.0 (flat k.1) (same_back k.0 s ∙ h.0)) (through_other s ks h.1)

through_flat : (before : List Location) (ks : List Kid) → AreDistinct ks → IsClear before ks → IsFlat (before ++ through flat ks) ks
through_flat before [] apart h = tt
through_flat before (k ∷ ks) apart h =
    let own = map (λ (l : Location). k.0 ∷ l) (flat k.1) in
    let here : under k.0 (own ++ through flat ks) ≡ flat k.1 =
    under-append k.0 own (through flat ks) ∙ ap₂ (λ (x y : List Location). x ++ y) (under-same k.0 (flat k.1)) (through_other k.0 ks apart.0) ∙ append-nil (flat k.1) in (
      under-append k.0 before (own ++ through flat ks) ∙ ap₂ (λ (x y : List Location). x ++ y) h.0 here,
      subst (λ (ls : List Location). IsFlat ls ks) (append_assoc before own (through flat ks))
          (through_flat (before ++ own) ks apart.1 (beside k.0 before (flat k.1) ks (λ t. []) apart.0 h.1)),
    )

clear : (ks : List Kid) → IsClear [] ks
clear [] = tt
clear (k ∷ ks) = (refl, clear ks)

clear_root : (ks : List Kid) → IsClear ([] ∷ []) ks
clear_root [] = tt
clear_root (k ∷ ks) = (refl, clear_root ks)

items_flat : (ds : Items) → IsFlat (flat_items 0 ds) (item_kids 0 ds)
items_flat ds = subst (λ (ls : List Location). IsFlat ls (item_kids 0 ds)) (sym (flat_items-kids 0 ds)) (through_flat [] (item_kids 0 ds) (items_distinct 0 ds) (clear (item_kids 0 ds)))

members_flat : (before : List Location) (ms : Members) → AreDistinct (member_kids ms) → IsClear before (member_kids ms) → IsFlat (before ++ flat_members ms) (member_kids ms)
members_flat before ms apart h = subst (λ (ls : List Location). IsFlat (before ++ ls) (member_kids ms)) (sym (flat_members-kids ms)) (through_flat before (member_kids ms) apart h)

members_once : (before : List Location) (ms : Members) → AreDistinct (member_kids ms) → IsClear before (member_kids ms) → each_once_after before (flat_members ms) ≡ flat_members ms
members_once before ms apart h = ap (each_once_after before) (flat_members-kids ms) ∙ through_once before (member_kids ms) apart h ∙ sym (flat_members-kids ms)

mutual
  -- after what is flat at a value, only what its objects hold is new
  new_below : (d : Document) → IsOrderedDocument d → each_once_after (flat d) (all_candidates d) ≡ in_objects d
  new_below (array ds) h =
      let own = flat_items 0 ds in
      ap (each_once_after own) (repeated-items ds) ∙ each_once_after-append own own (through all_candidates (item_kids 0 ds))
      ∙ ap (λ (ls : List Location). ls ++ each_once_after (own ++ ls) (through all_candidates (item_kids 0 ds))) (nothing_new_after [] own)
      ∙ ap (λ (ls : List Location). each_once_after ls (through all_candidates (item_kids 0 ds))) (append-nil own)
      ∙ new_items own 0 ds h (items_distinct 0 ds) (items_flat ds)
  new_below (object ms) h =
      let apart = members_distinct ms h.0 in
      ap (each_once_after ([] ∷ [])) (repeated-members ms h) ∙ each_once_after-append ([] ∷ []) (flat_members ms) (through all_candidates (member_kids ms))
      ∙ ap (λ (ls : List Location). ls ++ each_once_after ([] ∷ ls) (through all_candidates (member_kids ms))) (members_once ([] ∷ []) ms apart (clear_root (member_kids ms)))
      ∙ ap (λ (ls : List Location). flat_members ms ++ ls) (new_members ([] ∷ flat_members ms) ms h.1 apart (members_flat ([] ∷ []) ms apart (clear_root (member_kids ms))))
  new_below _ h = refl

  new_items : (before : List Location) (n : ℕ) (ds : Items) → AreOrderedDocuments ds → AreDistinct (item_kids n ds) → IsFlat before (item_kids n ds) → each_once_after before (through all_candidates (item_kids n ds)) ≡ in_objects_items n ds
  new_items before n no_items h apart k = refl
  new_items before n (item d ds) h apart k =
      one_once before (index n) (all_candidates d) (in_objects d) (through all_candidates (item_kids (suc n) ds)) (in_objects_items (suc n) ds) (ap (λ (ls : List Location). each_once_after ls (all_candidates d)) k.0 ∙ new_below d h.0)
      (new_items (before ++ map (λ (l : Location). index n ∷ l) (in_objects d)) (suc n) ds h.1 apart.1 (beside (index n) before (in_objects d) (item_kids (suc n) ds) (λ t. flat t.1) apart.0 k.1))

  new_members : (before : List Location) (ms : Members) → HoldOrderedDocuments ms → AreDistinct (member_kids ms) → IsFlat before (member_kids ms) → each_once_after before (through all_candidates (member_kids ms)) ≡ in_objects_members ms
  new_members before no_members h apart k = refl
  new_members before (member j d ms) h apart k =
      one_once before (name j) (all_candidates d) (in_objects d) (through all_candidates (member_kids ms)) (in_objects_members ms) (ap (λ (ls : List Location). each_once_after ls (all_candidates d)) k.0 ∙ new_below d h.0)
      (new_members (before ++ map (λ (l : Location). name j ∷ l) (in_objects d)) ms h.1 apart.1 (beside (name j) before (in_objects d) (member_kids ms) (λ t. flat t.1) apart.0 k.1))

repeated_once : (d : Document) → IsOrderedDocument d → each_once (all_candidates d) ≡ candidates_below d
repeated_once (array ds) h =
    ap each_once (repeated-items ds) ∙ each_once_after-append [] (flat_items 0 ds) (through all_candidates (item_kids 0 ds))
    ∙ ap (λ (ls : List Location). ls ++ each_once_after ls (through all_candidates (item_kids 0 ds))) (flat_candidates_once (array ds))
    ∙ ap (λ (ls : List Location). flat_items 0 ds ++ ls) (new_items (flat_items 0 ds) 0 ds h (items_distinct 0 ds) (items_flat ds))
repeated_once (object ms) h =
    let apart = members_distinct ms h.0 in
    ap each_once (repeated-members ms h) ∙ each_once_after-append [] (flat_members ms) (through all_candidates (member_kids ms))
    ∙ ap (λ (ls : List Location). ls ++ each_once_after ls (through all_candidates (member_kids ms))) (members_once [] ms apart (clear (member_kids ms)))
    ∙ ap (λ (ls : List Location). flat_members ms ++ ls) (new_members (flat_members ms) ms h.1 apart (members_flat [] ms apart (clear (member_kids ms))))
repeated_once _ h = refl

-- ---- from locations of a document

pub all_repeated : (doc : Document) (ls : List Location) → flattened doc (step doc every (all_below doc ls)) ≡ each_once (from_each doc all_candidates ls)
all_repeated doc ls = ap each_once (from_each-twice doc flat (single_steps every) (from_each doc below ls) ∙ from_each-twice doc flattened_from_each below ls)

pub repeated_below : (doc : Document) (l : Location) → ((d : Document) → at doc l ≡ Some d → IsOrderedDocument d) → each_once (from doc all_candidates l) ≡ from doc candidates_below l
repeated_below doc l h = by (at doc l) refl
  where
    by : (o : Option Document) → at doc l ≡ o → each_once (map (λ m. l ++ m) (unwrap_or (option_map all_candidates o) [])) ≡ map (λ m. l ++ m) (unwrap_or (option_map candidates_below o) [])
    by None is = refl
    by (Some d) is =
        let document = h d is in
        each_once-deeper l (all_candidates d) ∙ ap (map (λ (m : Location). l ++ m)) (repeated_once d document)

pub from_one : (doc : Document) (l : Location) → ((d : Document) → at doc l ≡ Some d → IsOrderedDocument d) → flattened doc (step doc every (all_below doc (l ∷ []))) ≡ from doc candidates_below l
from_one doc l h = all_repeated doc (l ∷ []) ∙ ap each_once (append-nil (from doc all_candidates l)) ∙ repeated_below doc l h
