use Rattle.std.proofs.Common.{◌≡◌, ◌++◌, map, take}
use Rattle.json.specs.Value.{value_view}
use Rattle.json_trees.specs.Way.{IsWayFrom}
use Rattle.jpath_core.specs.Matches.{lines_text}
use Rattle.jpath_core.specs.Nodes.{location_of}
use Rattle.jpath_core.proofs.output.matches.add_lines_of_nodes.Given as goal

abbrev pub invariant-loop-node : goal.invariant-loop-node
invariant-loop-node l = record {
  way : IsWayFrom (value_view l.root.value.now) l.way;
  written : l.out.items ≡ l.initial.out.items ++ lines_text l.line (value_view l.root.value.now) (map location_of (take l.node-index l.nodes));
}
