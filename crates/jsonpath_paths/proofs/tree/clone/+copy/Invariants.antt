use Rattle.std.proofs.Common.{◌≡◌, take}
use Rattle.jsonpath_paths.specs.tree.View.{steps_of_list}
use Rattle.jsonpath_paths.proofs.tree.clone.+copy.Given as goal

abbrev pub invariant-copy_node-loop-step : goal.invariant-copy_node-loop-step
invariant-copy_node-loop-step l = steps_of_list l.steps.items ≡ steps_of_list (take l.step-index l.step-items)
