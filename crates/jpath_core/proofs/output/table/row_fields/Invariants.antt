use Rattle.std.proofs.Common.{map, take}
use Rattle.json.specs.Value.{value_view}
use Rattle.jpath_core.specs.Rows.{AreFields}
use Rattle.jpath_core.proofs.output.table.row_fields.Given as goal

abbrev pub invariant-loop-column : goal.invariant-loop-column
invariant-loop-column l = AreFields (value_view l.value.value.now) (take l.column-index l.columns) (map (λ f. f.items) l.fields.items)
