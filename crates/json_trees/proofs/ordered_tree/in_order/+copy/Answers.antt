use Rattle.std.proofs.Common.{◌≡◌, ◌+◌, [], ◌∷◌, ◌++◌, take, drop, map, sym, ap, ◌∙◌, arith}
use Rattle.std.proofs.lemmas.List.{drop_more, map-append, take_all, take_more}
use Rattle.json.specs.Value.{value_view, items_of, items_view, members_view}
use Rattle.json_trees.specs.OrderedTree.{in_order, items_in_order, members_in_order, put_in_order}
use Rattle.json_trees.proofs.OrderedTreeLemmas.{items_made, insert_puts}
use Rattle.json_trees.proofs.ordered_tree.in_order.+copy.Goals as goal

pub copy_items_in_order-loop-item-preserved : goal.copy_items_in_order-loop-item-preserved
copy_items_in_order-loop-item-preserved t c =
    let l = c.loop-item in
    let xs = c.deref-item-items.result.now in
    let i = l.item-index in
    let x = c.item-item.result in
    let v = c.in_ok-copy_in_order.field-0 in
    let sorted = map (λ y. in_order (value_view y)) in
    let more : take (i + 1) xs ≡ take i xs ++ x ∷ [] = take_more xs i x c.loop-item-test.true ∙ ap (λ y. take i xs ++ y ∷ []) (sym c.item-item.is) in
    ap (map value_view) c.in_ok-push.ensures.items ∙ map-append value_view l.made.items (v ∷ []) ∙ ap (λ js. js ++ value_view v ∷ []) l.invariant
    ∙ ap (λ j. sorted (take i xs) ++ j ∷ []) c.in_ok-copy_in_order.ensures ∙ sym (ap sorted more ∙ map-append (λ y. in_order (value_view y)) (take i xs) (x ∷ []))

pub copy_items_in_order-returns : goal.copy_items_in_order-returns
copy_items_in_order-returns t c =
    let l = c.loop-item in
    let xs = c.deref-item-items.result.now in
    ap items_of (l.invariant ∙ ap (map (λ x. in_order (value_view x))) (take_all l.item-index xs c.loop-item-test.false)) ∙ items_made xs ∙ ap (λ ys. items_in_order (items_view ys)) c.deref-item-items.ensures.value

pub copy_members_in_order-loop-member-preserved : goal.copy_members_in_order-loop-member-preserved
copy_members_in_order-loop-member-preserved t c =
    let l = c.loop-member in
    let xs = c.deref-member-items.result.now in
    let x = c.member-item.result in
    let v = c.in_ok-copy_in_order.field-0 in
    let es = l.named.entries in
    let rest = drop (l.member-index + 1) xs in
    let here : drop l.member-index xs ≡ x ∷ rest = drop_more xs l.member-index x (omega arith) ∙ ap (λ y. y ∷ rest) (sym c.member-item.is) in
    ap (members_in_order (members_view rest)) (ap members_view c.in_ok-insert.ensures.entries ∙ insert_puts es x.0 v ∙ ap (λ j. put_in_order x.0.now j (members_view es)) c.in_ok-copy_in_order.ensures)
    ∙ ap (λ ys. members_in_order (members_view ys) (members_view es)) (sym here) ∙ l.invariant
