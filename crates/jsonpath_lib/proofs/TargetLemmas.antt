-- Nodes in document order, each once, stand at the targets of the paths that select them.
use Rattle.std.proofs.Common.{◌≡◌, ℕ, true, List, [], ◌∷◌, ◌++◌, map, Option, Ordering, Less, Greater, fold, refl, ap, ◌∙◌, sym, subst, append-nil}
use Rattle.std.proofs.lemmas.List.{append_assoc}
use Rattle.std.specs.BTreeSet.{insert_key}
use Rattle.std.specs.List.{AllByRecursion}
use Rattle.std.specs.List.Sorted.{IsStrictlySortedBy}
use Rattle.std.specs.Ordering.{match_ordering, ordering_reverse}
use Rattle.jsonpath_lib.specs.update.Masked.{AreSelectedNodes, AreTargetsOfAll}
use Rattle.jsonpath_nodes.specs.place.Order.{location_total, once_in_order}
use Rattle.jsonpath_nodes.specs.document.Document.{Document}
use Rattle.jsonpath_nodes.specs.place.Location.{Location, location_cmp}
use Rattle.jsonpath_nodes.specs.place.Mark.{MarksLeadBy, MarksStandAt, shown, look_kept}
use Rattle.jsonpath_nodes.specs.place.SpotPlace.{place_location, place_value, step_of}
use Rattle.jsonpath_nodes.specs.DocumentLaws.{OnceInOrderAscends}
use Rattle.jsonpath_nodes.specs.declared.place.spot.TreeNode.{TreeNode}
use Rattle.json_trees.specs.declared.targets.StepList.{StepList}

abbrev Sight : Type 0
Sight = Location × Option Document

-- the nodes show where they stand
locations_shown : {T N : Type 0} (bytes : N → List ℕ) (content : T → Document) (doc : Document) (ls : List Location) (nodes : List (TreeNode T N)) → MarksStandAt true (place_location bytes) (place_value content) doc ls nodes → map (place_location bytes) nodes ≡ ls
locations_shown {T} {N} bytes content doc ls nodes h = firsts nodes ∙ ap (λ (xs : List Sight). map (λ x. x.0) xs) h ∙ looks ls
  where
    firsts : (ns : List (TreeNode T N)) → map (place_location bytes) ns ≡ map (λ (x : Sight). x.0) (map (shown (place_location bytes) (place_value content)) ns)
    firsts [] = refl
    firsts (n ∷ ns) = ap (λ (ms : List Location). place_location bytes n ∷ ms) (firsts ns)

    looks : (ms : List Location) → map (λ (x : Sight). x.0) (map (look_kept true doc) ms) ≡ ms
    looks [] = refl
    looks (m ∷ ms) = ap (λ (ns : List Location). m ∷ ns) (looks ms)

-- ---- locations in document order are what stands once and in order of them

last_of_all : (P : Location → Type 0) (ls : List Location) (m : Location) (rest : List Location) → AllByRecursion P (ls ++ m ∷ rest) → P m
last_of_all P [] m rest h = h.0
last_of_all P (l ∷ ls) m rest h = last_of_all P ls m rest h.1

insert_greater : (o : Ordering) (m l : Location) (ls : List Location) → o ≡ Greater → match_ordering o (m ∷ l ∷ ls) (l ∷ ls) (l ∷ insert_key location_cmp ls m) ≡ l ∷ insert_key location_cmp ls m
insert_greater o m l ls e = ap (λ o. match_ordering o (m ∷ l ∷ ls) (l ∷ ls) (l ∷ insert_key location_cmp ls m)) e

insert_last : (ls : List Location) (m : Location) (rest : List Location) → IsStrictlySortedBy location_cmp (ls ++ m ∷ rest) → insert_key location_cmp ls m ≡ ls ++ m ∷ []
unfolding IsStrictlySortedBy
insert_last [] m rest h = refl
insert_last (l ∷ ls) m rest h =
    let before = last_of_all (λ k. location_cmp l k ≡ Less) ls m rest h.0 in
    let after : location_cmp m l ≡ Greater = location_total.antisymm m l ∙ ap ordering_reverse before in
    insert_greater (location_cmp m l) m l ls after ∙ ap (λ ks. l ∷ ks) (insert_last ls m rest h.1)

fold_in_order : (ls before : List Location) → IsStrictlySortedBy location_cmp (before ++ ls) → fold (insert_key location_cmp) before ls ≡ before ++ ls
fold_in_order [] before h = sym (append-nil before)
fold_in_order (l ∷ ls) before h =
    ap (λ ks. fold (insert_key location_cmp) ks ls) (insert_last before l ls h)
    ∙ (fold_in_order ls (before ++ l ∷ []) (subst (IsStrictlySortedBy location_cmp) (sym (append_assoc before (l ∷ []) ls)) h) ∙ append_assoc before (l ∷ []) ls)

once_sorted : (ls : List Location) → IsStrictlySortedBy location_cmp ls → ls ≡ once_in_order ls
once_sorted ls h = sym (fold_in_order ls [] h)

-- ---- targets that are given as lists of steps

abbrev locations_to : List StepList → List Location
locations_to lists = map (λ p. map step_of p.steps.now) lists

-- some nodes are at what the paths select
module _ {T N : Type 0} (bytes : N → List ℕ) (content : T → Document) (paths : List (List ℕ)) (doc : Document) (nodes : List (TreeNode T N)) (selected : AreSelectedNodes bytes content paths doc nodes) (lists : List StepList) where
  -- the lists lead to these nodes, which are in order
  pub in_order_already : locations_to lists ≡ map (place_location bytes) nodes → IsStrictlySortedBy location_cmp (locations_to lists) → AreTargetsOfAll paths doc (locations_to lists)
  in_order_already same ordered = record {
    all = selected.0;
    selected = selected.1;
    are = once_sorted (locations_to lists) ordered ∙ ap once_in_order (same ∙ locations_shown bytes content doc selected.2.0 nodes selected.2.1) ∙ selected.2.2;
  }

  -- the lists lead to what was found by putting these nodes in order
  module _ (spots found : List (TreeNode T N)) (is : spots ≡ nodes) (put : MarksLeadBy true (place_location bytes) (place_value content) (λ _ ls. once_in_order ls) spots found) (same : locations_to lists ≡ map (place_location bytes) found) where
    stand_in_order : locations_to lists ≡ once_in_order selected.2.0
    stand_in_order = same ∙ locations_shown bytes content doc (once_in_order selected.2.0) found (put doc selected.2.0 (ap (map (shown (place_location bytes) (place_value content))) is ∙ selected.2.1))

    pub put_in_order : AreTargetsOfAll paths doc (locations_to lists)
    put_in_order = record { all = selected.0; selected = selected.1; are = stand_in_order ∙ selected.2.2 }

    pub order_ascends : OnceInOrderAscends → IsStrictlySortedBy location_cmp (locations_to lists)
    order_ascends ascends = subst (IsStrictlySortedBy location_cmp) (sym stand_in_order) (ascends selected.2.0)
