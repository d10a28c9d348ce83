use Rattle.std.proofs.Common.{◌≡◌, ◌&&◌, ◌+◌, ◌*◌, map, drop, is_some}
use Rattle.json.specs.Value.{value_view, items_of, items_view, members_view}
use Rattle.serde_json.specs.Data.{Members}
use Rattle.serde_json.specs.Read.{of_items, of_members}
use Rattle.json_trees.specs.OrderedTree.{in_order}
use Rattle.json_trees.proofs.InPlaceLemmas.{ChangedSoFar, size, items_size, members_size, seen, seen_in_order, members_at}
use Rattle.json_trees.proofs.OrderedTreeLemmas.{is_behind, names_ascend}
use Rattle.json_trees.proofs.ordered_tree.put_in_order.+put.Given as goal

abbrev pub invariant-put_items_in_order-loop-item : goal.invariant-put_items_in_order-loop-item
invariant-put_items_in_order-loop-item l =
    let old = map value_view l.fn.items.items in
    record {
      changed : ChangedSoFar value_view in_order old l.item-index l.item-items;
      read : is_some (of_items (items_of old)) ≡ (l.are_read && is_some (of_items (items_of (drop l.item-index old))));
    }

abbrev pub invariant-put_members_in_order-loop-member : goal.invariant-put_members_in_order-loop-member
invariant-put_members_in_order-loop-member l =
    let old = map seen l.fn.members.items in
    let left = members_at (drop l.member-index old) in
    record {
      changed : ChangedSoFar seen seen_in_order old l.member-index l.member-items;
      read : (found : Members) → is_some (of_members (members_at old) found) ≡ (l.are_read && is_some (of_members left found));
      ascend : names_ascend (members_at old) ≡ (l.ascend && (is_behind l.before left && names_ascend left));
    }

abbrev pub decreases-put_in_order : goal.decreases-put_in_order
decreases-put_in_order l = 2 * size (value_view l.tree.now)

abbrev pub decreases-put_items_in_order : goal.decreases-put_items_in_order
decreases-put_items_in_order l = 2 * items_size (items_view l.items.now.items) + 1

abbrev pub decreases-put_members_in_order : goal.decreases-put_members_in_order
decreases-put_members_in_order l = 2 * members_size (members_view l.members.now.items) + 1
