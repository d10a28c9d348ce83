use Rattle.std.proofs.Common.{length}
use Rattle.jsonpath_nodes.proofs.step.candidates.+first_difference_ascends.Given as goal

abbrev pub decreases-first_difference_ascends : goal.decreases-first_difference_ascends
decreases-first_difference_ascends l = length l.left.now
