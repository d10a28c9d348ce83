-- What several paths select together, path after path.
use Rattle.std.proofs.Common.{◌≡◌, ℕ, ◌+◌, ◌<◌, ◌≤◌, true, List, [], ◌∷◌, ◌++◌, map, length, drop, get_or, Option, refl, ap, ap₂, ◌∙◌, sym, subst, append-nil, ◌↔◌, Contains, drop_of_length-le}
use Rattle.std.proofs.lemmas.List.{drop_more, append_assoc, map-append}
use Rattle.jsonpath_select.specs.Meaning.{sel, SelectsNodeSet}
use Rattle.jsonpath_lib.specs.update.Masked.{AreSelected, AreSelectedNodes, AreAsGood}
use Rattle.jsonpath_nodes.specs.place.Order.{once_in_order}
use Rattle.jsonpath_nodes.specs.document.Document.{Document}
use Rattle.jsonpath_nodes.specs.place.Location.{Location}
use Rattle.jsonpath_nodes.specs.place.Mark.{MarksStandAt, shown, look_kept}
use Rattle.jsonpath_nodes.specs.DocumentLaws.{OnceInOrderKeepsMembers}
use Rattle.jsonpath_nodes.specs.place.SpotPlace.{place_location, place_value}
use Rattle.jsonpath_nodes.specs.step.SameMembers.{SameMembers, JoinedSets, OneListOfASet}
use Rattle.jsonpath_nodes.specs.declared.place.spot.TreeNode.{TreeNode}

abbrev Stand : {T N : Type 0} → (N → List ℕ) → (T → Document) → Document → List Location → List (TreeNode T N) → Type 0
Stand bytes content doc ls nodes = MarksStandAt true (place_location bytes) (place_value content) doc ls nodes

-- the nodes stand in the document, and what the paths that are left select completes them to the set that all of them select
abbrev pub Completes : {T N : Type 0} → (N → List ℕ) → (T → Document) → List (List ℕ) → ℕ → Document → List (TreeNode T N) → Type 0
Completes bytes content paths i doc nodes =
    (found : List Location) × Stand bytes content doc found nodes × ((rest : List Location) → AreSelected (drop i paths) doc rest → (all : List Location) × AreSelected paths doc all × SameMembers (found ++ rest) all)

abbrev Sight : Type 0
Sight = Location × Option Document

pub same-itself : (ls : List Location) → SameMembers ls ls
same-itself ls l = (λ h. h, λ h. h)

module _ {T N : Type 0} (bytes : N → List ℕ) (content : T → Document) where
  pub selected_first : (paths : List (List ℕ)) (doc : Document) (nodes : List (TreeNode T N)) → nodes ≡ [] → Completes bytes content paths 0 doc nodes
  selected_first paths doc nodes none = ([], ap (map (shown (place_location bytes) (place_value content))) none, λ rest are. (rest, are, same-itself rest))

module _ (keeps : OnceInOrderKeepsMembers) (joined : JoinedSets) (one_list : OneListOfASet) {T N : Type 0} (bytes : N → List ℕ) (content : T → Document) where
  same_set : (ls ms : List Location) → once_in_order ls ≡ once_in_order ms → SameMembers ls ms
  same_set ls ms e l =
      let there : Contains (once_in_order ls) l ↔ Contains (once_in_order ms) l = subst (λ (ns : List Location). Contains (once_in_order ls) l ↔ Contains ns l) e (λ h. h, λ h. h) in
      (λ a. (keeps ms l).0 (there.0 ((keeps ls l).1 a)), λ a. (keeps ls l).0 (there.1 ((keeps ms l).1 a)))

  same-trans : (ls ms ns : List Location) → SameMembers ls ms → SameMembers ms ns → SameMembers ls ns
  same-trans ls ms ns h k l = (λ a. (k l).0 ((h l).0 a), λ a. (h l).1 ((k l).1 a))

  -- no path is left
  pub selected_done : (paths : List (List ℕ)) (i : ℕ) (doc : Document) (nodes : List (TreeNode T N)) → length paths ≤ i → Completes bytes content paths i doc nodes
      → AreSelectedNodes bytes content paths doc nodes
  selected_done paths i doc nodes over held =
      let P : List (List ℕ) → Type 0 = λ ps. AreSelected ps doc [] in
      let found = held.2 [] (subst P (sym (drop_of_length-le paths {i = i} over)) refl) in
      let same : SameMembers held.0 found.0 = subst (λ (ms : List Location). SameMembers ms found.0) (append-nil held.0) found.2 in
      (found.0, found.1, (held.0, held.1, one_list held.0 found.0 same))

  -- one more path is done
  pub selected_more : (paths : List (List ℕ)) (i : ℕ) (doc : Document) (nodes before after : List (TreeNode T N)) (d text : List ℕ) → i < length paths → text ≡ get_or paths i d
      → SelectsNodeSet bytes content text doc nodes → after ≡ before ++ nodes → Completes bytes content paths i doc before → Completes bytes content paths (i + 1) doc after
  selected_more paths i doc nodes before after d text within is selected pushed held =
      let front = held.0 in
      let here = selected.holds.0 in
      let there = sel text doc selected.path in
      let see = shown (place_location bytes) (place_value content) in
      let stand : Stand bytes content doc (front ++ here) after =
      ap (map see) pushed ∙ map-append see before nodes ∙ ap₂ (λ (xs ys : List Sight). xs ++ ys) held.1 selected.holds.1 ∙ sym (map-append (look_kept true doc) front here) in (
        front ++ here,
        stand,
        λ rest later.
            let P : List (List ℕ) → Type 0 = λ ps. AreSelected ps doc (there ++ rest) in
            let next : text ∷ drop (i + 1) paths ≡ drop i paths = ap (λ (t : List ℕ). t ∷ drop (i + 1) paths) is ∙ sym (drop_more paths i d within) in
            let found = held.2 (there ++ rest) (subst P next (selected.path, rest, selected.spelled, later, refl)) in
            let same : SameMembers (front ++ (here ++ rest)) (front ++ (there ++ rest)) =
            joined front front (here ++ rest) (there ++ rest) (same-itself front) (joined here there rest rest (same_set here there selected.holds.2) (same-itself rest)) in
            (found.0, found.1, subst (λ (ms : List Location). SameMembers ms found.0) (sym (append_assoc front here rest)) (same-trans (front ++ (here ++ rest)) (front ++ (there ++ rest)) found.0 same found.2)),
      )

  -- other nodes are as good
  pub selected_as_good : (paths : List (List ℕ)) (i : ℕ) (doc : Document) (nodes others : List (TreeNode T N)) → AreAsGood bytes content nodes others → Completes bytes content paths i doc nodes
      → Completes bytes content paths i doc others
  selected_as_good paths i doc nodes others good held =
      let ls = held.0 in
      let there = good doc ls held.1 in (
        there.0,
        there.1,
        λ rest later.
            let h = held.2 rest later in
            (h.0, h.1, same-trans (there.0 ++ rest) (ls ++ rest) h.0 (joined there.0 ls rest rest there.2 (same-itself rest)) h.2),
      )
