use Rattle.std.proofs.Common.{◌≡◌, ◌+◌, ◌++◌, ◌∷◌, true, drop, map, sym, ap, ◌∙◌, arith}
use Rattle.std.proofs.lemmas.List.{append_assoc, drop_more}
use Rattle.json.specs.Value.{value_view}
use Rattle.jpath_core.specs.Matches.{item_text, items_text}
use Rattle.jpath_core.proofs.output.matches.add_array_items.Goals as goal

pub loop-selected-preserved : goal.loop-selected-preserved
loop-selected-preserved c =
    let l = c.loop-selected in
    let look = c.args.look in
    let values = c.args.values.now in
    let x = c.selected-item.result in
    let here : drop l.selected-index values ≡ x ∷ drop (l.selected-index + 1) values = drop_more values l.selected-index x (omega arith) ∙ ap (λ y. y ∷ drop (l.selected-index + 1) values) (sym c.selected-item.is) in
    let rest = items_text true look (map (λ v. value_view v.value.now) (drop (l.selected-index + 1) values)) in
    ap (λ o. o ++ rest) c.in_ok-add_item.ensures ∙ append_assoc l.out.items (item_text l.has_items look (value_view x.value.now)) rest
    ∙ ap (λ vs. l.out.items ++ items_text l.has_items look (map (λ v. value_view v.value.now) vs)) (sym here) ∙ l.invariant
