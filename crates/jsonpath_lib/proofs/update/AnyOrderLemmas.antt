-- Masking and removing by two lists of the same paths, in whatever order, with or without repeats.
use Rattle.std.proofs.Common.{◌≡◌, ℕ, zero, suc, ◌<◌, List, [], ◌∷◌, length, get_or, refl, sym, ap, subst, ◌∙◌, inl, inr, arith, Contains, ◌↔◌}
use Rattle.std.proofs.lemmas.List.Elements.{Contains-append_left, Contains-append_right, Contains-append_cases}
use Rattle.jsonpath_nodes.specs.document.Document.{Document}
use Rattle.jsonpath_paths.specs.Spelling.{Spells}
use Rattle.jsonpath_paths.specs.tree.Tree.{Path}
use Rattle.jsonpath_nodes.specs.DocumentLaws.{OnceInOrderKeepsMembers, SetsAlone}
use Rattle.jsonpath_nodes.specs.place.Location.{Location}
use Rattle.jsonpath_select.specs.Meaning.{sel}
use Rattle.jsonpath_lib.specs.update.UpdateLaws.{AreSamePaths, MasksInAnyOrder, RemovesInAnyOrder}
use Rattle.jsonpath_lib.specs.update.Masked.{AreSelected, AreTargetsOfAll}

-- each location that a list of paths selects is selected by one of them
selected_by_one : (ss : List (List ℕ)) (doc : Document) (ls : List Location) (l : Location) → AreSelected ss doc ls → Contains ls l
    → (s : List ℕ) × (p : Path) × Contains ss s × Spells s p × Contains (sel s doc p) l
selected_by_one [] doc ls l h there = let few = ap length h in let lt = there.1 in absurd (omega arith)
selected_by_one (s ∷ ss) doc ls l h there =
    elim (Contains-append_cases (sel s doc h.0) h.1 l (subst (λ ms. Contains ms l) h.4 there)) [
      | inl here ↦ (s, h.0, (0, omega arith, refl), h.2, here)
      | inr later ↦ let one = selected_by_one ss doc h.1 l h.3 later in
          (one.0, one.1, (suc one.2.0, omega arith, one.2.2), one.3, one.4)
    ]

module _ (one_tree_per_text : (text : List ℕ) (p q : Path) → Spells text p → Spells text q → p ≡ q) where
  -- what one of the paths selects is selected by them all
  selected_among_all : (ts : List (List ℕ)) (doc : Document) (ms : List Location) (s : List ℕ) (p : Path) (l : Location) (k : ℕ) → AreSelected ts doc ms
      → k < length ts → get_or ts k s ≡ s → Spells s p → Contains (sel s doc p) l → Contains ms l
  selected_among_all [] doc ms s p l k h lt e spelled there = absurd (omega arith)
  selected_among_all (t ∷ ts) doc ms s p l zero h lt e spelled there =
      let tree : h.0 ≡ p = one_tree_per_text s h.0 p (subst (λ u. Spells u h.0) e h.2) spelled in
      let here : Contains (sel t doc h.0) l = rw (tree, e) there in
      subst (λ ns. Contains ns l) (sym h.4) (Contains-append_left (sel t doc h.0) h.1 l here)
  selected_among_all (t ∷ ts) doc ms s p l (suc k) h lt e spelled there =
      subst (λ ns. Contains ns l) (sym h.4) (Contains-append_right (sel t doc h.0) h.1 l (selected_among_all ts doc h.1 s p l k h.3 (omega arith) e spelled there))

  -- what a list of paths selects is selected by any list that has all of them
  selected_by_more : (ss ts : List (List ℕ)) (doc : Document) (ls ms : List Location) → ((s : List ℕ) → Contains ss s → Contains ts s)
      → AreSelected ss doc ls → AreSelected ts doc ms → (l : Location) → Contains ls l → Contains ms l
  selected_by_more ss ts doc ls ms among first second l there =
      let one = selected_by_one ss doc ls l first there in
      let place = among one.0 one.2 in
      selected_among_all ts doc ms one.0 one.1 l place.0 second place.1 place.2 one.3 one.4

  -- what two lists of the same paths select is one set
  same_targets : OnceInOrderKeepsMembers → (ss ts : List (List ℕ)) (doc : Document) (ls ms : List Location) → AreSamePaths ss ts
      → AreTargetsOfAll ss doc ls → AreTargetsOfAll ts doc ms → (l : Location) → Contains ls l ↔ Contains ms l
  same_targets keeps ss ts doc ls ms same first second l =
      rw (first.are, second.are) (
        λ h. (keeps second.all l).1 (selected_by_more ss ts doc first.all second.all (λ s. (same s).0) first.selected second.selected l ((keeps first.all l).0 h)),
        λ h. (keeps first.all l).1 (selected_by_more ts ss doc second.all first.all (λ s. (same s).1) second.selected first.selected l ((keeps second.all l).0 h)),
      )

  pub masks_in_any_order : OnceInOrderKeepsMembers → SetsAlone → MasksInAnyOrder
  masks_in_any_order keeps sets ss ts before a b same first second =
      first.changed ∙ (sets before first.locations second.locations (same_targets keeps ss ts before first.locations second.locations same first.targets second.targets)).0 ∙ sym second.changed

  pub removes_in_any_order : OnceInOrderKeepsMembers → SetsAlone → RemovesInAnyOrder
  removes_in_any_order keeps sets ss ts before a b same first second =
      first.changed ∙ (sets before first.locations second.locations (same_targets keeps ss ts before first.locations second.locations same first.targets second.targets)).1 ∙ sym second.changed
