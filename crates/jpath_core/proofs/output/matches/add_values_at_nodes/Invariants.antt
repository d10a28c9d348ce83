use Rattle.std.proofs.Common.{◌≡◌, ◌++◌, All, map, take}
use Rattle.std.specs.Prelude.{filter_map}
use Rattle.json.specs.Tree.{HasNumbers}
use Rattle.json.specs.Value.{value_view}
use Rattle.json_trees.specs.ExactAt.{exact_at}
use Rattle.json_trees.specs.Way.{IsWayFrom}
use Rattle.jpath_core.specs.Nodes.{location_of}
use Rattle.jpath_core.proofs.output.matches.add_values_at_nodes.Given as goal

abbrev pub invariant-loop-node : goal.invariant-loop-node
invariant-loop-node l = record {
  way : IsWayFrom (value_view l.root.value.now) l.way;
  added : map (λ v. value_view v.value.now) l.values.items ≡ map (λ v. value_view v.value.now) l.initial.values.items ++ filter_map (exact_at (value_view l.root.value.now)) (map location_of (take l.node-index l.nodes));
  writable : All (λ v. HasNumbers (value_view v.value.now)) l.initial.values.items → All (λ v. HasNumbers (value_view v.value.now)) l.values.items;
}
