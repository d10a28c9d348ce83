use Rattle.std.proofs.Common.{length}
use Rattle.jsonpath_nodes.proofs.place.reversed_steps.+is_reversed_prefix_of.Given as goal

abbrev pub decreases-is_reversed_prefix_of : goal.decreases-is_reversed_prefix_of
decreases-is_reversed_prefix_of g l = length l.first.now
