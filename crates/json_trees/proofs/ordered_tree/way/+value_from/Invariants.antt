use Rattle.std.proofs.Common.{length}
use Rattle.json_trees.proofs.ordered_tree.way.+value_from.Given as goal

abbrev pub decreases-value_from : goal.decreases-value_from
decreases-value_from l = length l.steps.now
