use Rattle.std.proofs.Common.{length}
use Rattle.jsonpath_nodes.proofs.update.single.+value_at.Given as goal

abbrev pub decreases-value_at : goal.decreases-value_at
decreases-value_at l = length l.steps.now
