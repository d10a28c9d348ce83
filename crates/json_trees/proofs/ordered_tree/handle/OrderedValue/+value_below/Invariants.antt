use Rattle.std.proofs.Common.{length}
use Rattle.json_trees.proofs.ordered_tree.handle.OrderedValue.+value_below.Given as goal

abbrev pub decreases-value_below : goal.decreases-value_below
decreases-value_below l = length l.steps.now
