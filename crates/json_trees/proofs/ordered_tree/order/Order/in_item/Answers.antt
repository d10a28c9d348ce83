use Rattle.std.proofs.Common.{◌≡◌, true, sym, ap, ◌∙◌, arith}
use Rattle.json.specs.Json.{array}
use Rattle.json_trees.specs.TreeOrder.{is_order}
use Rattle.json_trees.proofs.OrderLemmas.{item_meets, item_order, no_item, order_of_items}
use Rattle.json_trees.proofs.ordered_tree.order.Order.in_item.Goals as goal

pub returns-then-index-len : goal.returns-then-index-len
returns-then-index-len c js h =
    item_meets c.in-OfItems.orders.items js c.args.index c.index.result.now c.index.ensures (sym (ap (λ o. is_order o (array js)) c.in-OfItems.is ∙ order_of_items c.in-OfItems.orders (array js)) ∙ h)

pub returns-else-index-len : goal.returns-else-index-len
returns-else-index-len c js h =
    no_item c.in-OfItems.orders.items js c.args.index (λ j. is_order c.args.self.now j ≡ true) (omega (arith, c.if-index-len.false, c.len.ensures, c.in-OfItems.orders.ok.0))
    (sym (ap (λ o. is_order o (array js)) c.in-OfItems.is ∙ order_of_items c.in-OfItems.orders (array js)) ∙ h)

pub returns-in-AsItStands : goal.returns-in-AsItStands
returns-in-AsItStands c js h = item_order c.args.self.now js c.args.index c.in-AsItStands.is h
