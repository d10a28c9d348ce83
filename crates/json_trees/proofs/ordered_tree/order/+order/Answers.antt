use Rattle.std.specs.Prelude.{box_value}
use Rattle.std.proofs.Common.{bytes_eq, true, ◌≡◌, ◌+◌, [], ◌∷◌, ◌++◌, take, map, sym, ap, ◌∙◌}
use Rattle.std.proofs.lemmas.List.{map-append, take_all, take_more}
use Rattle.std.proofs.lemmas.Slice.Eq.{bytes_eq-Decides}
use Rattle.json.specs.Json.{array, object}
use Rattle.json.specs.Value.{items_view, members_view}
use Rattle.json_trees.specs.OrderedTree.{places}
use Rattle.json_trees.specs.TreeOrder.{each_meets, is_order, values_of}
use Rattle.json_trees.proofs.OrderLemmas.{each_meets_more, order_of_members, values_meet_more}
use Rattle.json_trees.proofs.OrderedTreeLemmas.{both}
use Rattle.json_trees.proofs.ordered_tree.order.+order.Goals as goal

pub order_of_items-loop-item-preserved : goal.order_of_items-loop-item-preserved
order_of_items-loop-item-preserved t c =
    let l = c.loop-item in
    let xs = c.deref-item-items.result.now in
    let i = l.item-index in
    let x = c.item-item.result in
    let o = c.in_ok-order_in.field-0 in
    let more : take (i + 1) xs ≡ take i xs ++ x ∷ [] = take_more xs i x c.loop-item-test.true ∙ ap (λ y. take i xs ++ y ∷ []) (sym c.item-item.is) in
    ap (λ ys. each_meets ys (items_view (take (i + 1) xs))) (ap (map is_order) c.in_ok-push.ensures.items ∙ map-append is_order l.orders.items (o ∷ []))
    ∙ ap (λ ys. each_meets (map is_order l.orders.items ++ is_order o ∷ []) (items_view ys)) more
    ∙ each_meets_more (map is_order l.orders.items) (take i xs) (is_order o) x l.invariant c.in_ok-order_in.ensures

pub order_of_items-returns : goal.order_of_items-returns
order_of_items-returns t c =
    let l = c.loop-item in
    let xs = c.deref-item-items.result.now in
    c.order_of_orders.ensures (items_view c.args.items.now.items)
    (ap (λ ys. each_meets (map is_order l.orders.items) (items_view ys)) (sym (take_all l.item-index xs c.loop-item-test.false ∙ c.deref-item-items.ensures.value)) ∙ l.invariant)

pub order_of_members-loop-member-preserved : goal.order_of_members-loop-member-preserved
order_of_members-loop-member-preserved t c =
    let l = c.loop-member in
    let xs = c.deref-member-items.result.now in
    let i = l.member-index in
    let x = c.member-item.result in
    let o = c.in_ok-order_in.field-0 in
    let more : take (i + 1) xs ≡ take i xs ++ x ∷ [] = take_more xs i x c.loop-member-test.true ∙ ap (λ y. take i xs ++ y ∷ []) (sym c.member-item.is) in
    ap (λ ys. each_meets ys (values_of (members_view (take (i + 1) xs)))) (ap (map is_order) c.in_ok-push.ensures.items ∙ map-append is_order l.orders.items (o ∷ []))
    ∙ ap (λ ys. each_meets (map is_order l.orders.items ++ is_order o ∷ []) (values_of (members_view ys))) more
    ∙ values_meet_more (map is_order l.orders.items) (take i xs) (is_order o) x l.invariant c.in_ok-order_in.ensures

pub order_of_members-returns : goal.order_of_members-returns
order_of_members-returns t c =
    let l = c.loop-member in
    let xs = c.deref-member-items.result.now in
    let ms = members_view c.args.members.now.items in
    let whole : xs ≡ c.args.members.now.items = c.deref-member-items.ensures.value in
    let found : c.in_ok-places.places.items ≡ map (λ e. e.1) (places ms) = c.in_ok-places.ensures ∙ ap (λ ys. map (λ e. e.1) (places (members_view ys))) c.as_slice.ensures.value in
    let meet : each_meets (map is_order l.orders.items) (values_of ms) ≡ true = ap (λ ys. each_meets (map is_order l.orders.items) (values_of (members_view ys))) (sym (take_all l.member-index xs c.loop-member-test.false ∙ whole)) ∙ l.invariant in
    order_of_members c.in_ok-places.places c.in_ok-values.values (object ms)
    ∙ both (bytes_eq c.in_ok-places.places.items (map (λ e. e.1) (places ms))) (is_order (box_value c.in_ok-values.values) (array (values_of ms))) ((bytes_eq-Decides _ _).1 found)
    (ap (λ o. is_order o (array (values_of ms))) c.in_ok-values.ensures.ok ∙ c.order_of_orders.ensures (values_of ms) meet)
