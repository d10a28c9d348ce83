use Rattle.std.proofs.Common.{◌≡◌, true, map, take}
use Rattle.json.specs.Value.{items_view, members_view}
use Rattle.json_trees.specs.TreeOrder.{each_meets, is_order, values_of}
use Rattle.json_trees.proofs.ordered_tree.order.+order.Given as goal

abbrev pub invariant-order_of_items-loop-item : goal.invariant-order_of_items-loop-item
invariant-order_of_items-loop-item l = each_meets (map is_order l.orders.items) (items_view (take l.item-index l.item-items)) ≡ true

abbrev pub invariant-order_of_members-loop-member : goal.invariant-order_of_members-loop-member
invariant-order_of_members-loop-member l = each_meets (map is_order l.orders.items) (values_of (members_view (take l.member-index l.member-items))) ≡ true
