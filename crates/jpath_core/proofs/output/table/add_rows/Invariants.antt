use Rattle.std.proofs.Common.{◌≡◌, ◌++◌, List, ℕ, map, take}
use Rattle.json.specs.Value.{value_view}
use Rattle.jpath_core.specs.Nodes.{location_of}
use Rattle.jpath_core.specs.Rows.{AreRowsAt}
use Rattle.jpath_core.proofs.output.table.add_rows.Given as goal

abbrev pub invariant-loop-node : goal.invariant-loop-node
invariant-loop-node l = (text : List ℕ) × AreRowsAt (value_view l.document.exact) l.columns l.separated (map location_of (take l.node-index l.node-items)) text × (l.out.items ≡ l.initial.out.items ++ text)
