use Rattle.std.proofs.Common.{drop}
use Rattle.jsonpath_nodes.specs.place.SpotPlace.{step_of}
use Rattle.json_trees.specs.Targets.{targets_view}
use Rattle.json_trees.proofs.TargetsLemmas.{Keeps}
use Rattle.json_trees.proofs.targets.Targets.split_at_step.Given as goal

abbrev pub invariant-loop-i : goal.invariant-loop-i
invariant-loop-i l = Keeps (step_of l.step) (targets_view l.self) (drop l.i (targets_view l.self))
