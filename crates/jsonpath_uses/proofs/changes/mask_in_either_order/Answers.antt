use Rattle.std.proofs.Common.{ℕ, List, [], ◌∷◌, inl, inr, sym, Contains}
use Rattle.std.proofs.lemmas.List.Elements.{Contains-append_left, Contains-append_right, Contains-append_cases}
use Rattle.jsonpath_nodes.specs.document.OfData.{value_document}
use Rattle.jsonpath_lib.specs.update.UpdateLaws.{AreSamePaths}
use Rattle.jsonpath_uses.proofs.changes.mask_in_either_order.Goals as goal

swapped : (first second text : List ℕ) → Contains (first ∷ second ∷ []) text → Contains (second ∷ first ∷ []) text
swapped first second text h =
    elim (Contains-append_cases (first ∷ []) (second ∷ []) text h) [
      | inl one ↦ Contains-append_right (second ∷ []) (first ∷ []) text one
      | inr other ↦ Contains-append_left (second ∷ []) (first ∷ []) text other
    ]

pub returns : goal.returns
returns c =
    let first = c.args.first.now in
    let second = c.args.second.now in
    let same : AreSamePaths (first ∷ second ∷ []) (second ∷ first ∷ []) = λ text. (swapped first second text, swapped second first text) in
    c.documents_keep_data_apart.ensures _ _ (c.masks_in_any_order.ensures (first ∷ second ∷ []) (second ∷ first ∷ []) (value_document c.args.one) _ _ same c.in-Ok.ensures.ok (rw (sym c.requires) at c.in-Ok-mask.ensures.ok))
