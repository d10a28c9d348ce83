use Rattle.std.proofs.Common.{length}
use Rattle.json_trees.proofs.ordered_tree.way.+count_shared.Given as goal

abbrev pub decreases-count_shared : goal.decreases-count_shared
decreases-count_shared l = length l.passed.now
