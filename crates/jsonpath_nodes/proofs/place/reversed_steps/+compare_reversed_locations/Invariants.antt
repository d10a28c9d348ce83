use Rattle.std.proofs.Common.{length}
use Rattle.jsonpath_nodes.proofs.place.reversed_steps.+compare_reversed_locations.Given as goal

abbrev pub decreases-compare_reversed_locations : goal.decreases-compare_reversed_locations
decreases-compare_reversed_locations g l = length l.a.now
