use Rattle.std.proofs.Common.{◌≡◌, ◌-◌, [], length}
use Rattle.json_trees.specs.TreeOrder.{by_names, put_each, put_from}
use Rattle.json_trees.proofs.ordered_tree.sort_by_name.sort_few.Given as goal

abbrev pub invariant-loop-sorted : goal.invariant-loop-sorted
invariant-loop-sorted g l = put_from l.sorted l.named.items ≡ put_each (by_names l.fn.named.items) []

abbrev pub decreases-loop-sorted : goal.decreases-loop-sorted
decreases-loop-sorted g l = length l.named.items - l.sorted
