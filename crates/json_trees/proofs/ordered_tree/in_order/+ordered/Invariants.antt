use Rattle.std.proofs.Common.{◌≡◌, ◌&&◌, drop}
use Rattle.json.specs.Value.{items_view, members_view}
use Rattle.json_trees.specs.OrderedTree.{are_items_ordered, are_members_ordered}
use Rattle.json_trees.proofs.OrderedTreeLemmas.{is_behind}
use Rattle.json_trees.proofs.ordered_tree.in_order.+ordered.Given as goal

abbrev pub invariant-are_named_trees_ordered-loop-member : goal.invariant-are_named_trees_ordered-loop-member
invariant-are_named_trees_ordered-loop-member l =
    let left = members_view (drop l.member-index l.member-items) in are_members_ordered (members_view l.members.items) ≡ (is_behind l.before left && are_members_ordered left)

abbrev pub invariant-are_trees_ordered-loop-item : goal.invariant-are_trees_ordered-loop-item
invariant-are_trees_ordered-loop-item l = are_items_ordered (items_view l.items.items) ≡ are_items_ordered (items_view (drop l.item-index l.item-items))
