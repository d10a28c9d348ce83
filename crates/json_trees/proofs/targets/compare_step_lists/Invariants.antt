use Rattle.std.proofs.Common.{◌≡◌, ◌≤◌, drop, length, map}
use Rattle.jsonpath_nodes.specs.place.Location.{location_cmp}
use Rattle.jsonpath_nodes.specs.place.SpotPlace.{step_of}
use Rattle.json_trees.proofs.targets.compare_step_lists.Given as goal

abbrev pub invariant-loop-i : goal.invariant-loop-i
invariant-loop-i l = record {
  same : location_cmp (map step_of l.left) (map step_of l.right) ≡ location_cmp (drop l.i (map step_of l.left)) (drop l.i (map step_of l.right));
  within : l.i ≤ length l.right;
}
