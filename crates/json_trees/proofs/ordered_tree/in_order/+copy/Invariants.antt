use Rattle.std.proofs.Common.{◌≡◌, map, take, drop}
use Rattle.json.specs.Json.{no_members}
use Rattle.json.specs.Value.{value_view, members_view}
use Rattle.json_trees.specs.OrderedTree.{in_order, members_in_order}
use Rattle.json_trees.proofs.ordered_tree.in_order.+copy.Given as goal

abbrev pub invariant-copy_items_in_order-loop-item : goal.invariant-copy_items_in_order-loop-item
invariant-copy_items_in_order-loop-item l =
    map value_view l.made.items ≡ map (λ x. in_order (value_view x)) (take l.item-index l.item-items)

abbrev pub invariant-copy_members_in_order-loop-member : goal.invariant-copy_members_in_order-loop-member
invariant-copy_members_in_order-loop-member l =
    members_in_order (members_view (drop l.member-index l.member-items)) (members_view l.named.entries) ≡ members_in_order (members_view l.member-items) no_members
