use Rattle.std.proofs.Common.{◌≡◌, true, map, length}
use Rattle.json.specs.Json.{Items}
use Rattle.json_trees.specs.OrderedTree.{are_items_ordered}
use Rattle.json_trees.specs.TreeOrder.{each_meets, is_order}
use Rattle.json_trees.proofs.ordered_tree.order.all_stand.Given as goal

abbrev pub decreases-loop-order : goal.decreases-loop-order
decreases-loop-order l = length l.left

abbrev pub invariant-loop-order : goal.invariant-loop-order
invariant-loop-order l = ((js : Items) → each_meets (map is_order l.left) js ≡ true → are_items_ordered js ≡ true) → (js : Items) → each_meets (map is_order l.orders) js ≡ true → are_items_ordered js ≡ true
