use Rattle.std.proofs.Common.{◌≡◌, length}
use Rattle.jsonpath_paths.specs.tree.View.{steps_of_list}
use Rattle.jpath_core.specs.AlongExactTree.{are_straight}
use Rattle.jpath_core.proofs.exact_tree.exact_evaluator.are_straight.Given as goal

abbrev pub invariant-loop-step : goal.invariant-loop-step
invariant-loop-step l = are_straight (steps_of_list l.steps) ≡ are_straight (steps_of_list l.left)

abbrev pub decreases-loop-step : goal.decreases-loop-step
decreases-loop-step l = length l.left
