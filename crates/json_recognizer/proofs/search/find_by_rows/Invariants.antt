use Rattle.std.proofs.Common.{◌-◌, ◌≤◌, length}
use Rattle.json_recognizer.specs.plan.Rows.{IsOpen, at_row, Reaches}
use Rattle.json_recognizer.proofs.search.find_by_rows.Given as goal

abbrev pub invariant-loop-index : goal.invariant-loop-index
invariant-loop-index l = record {
  found : Reaches (at_row l.fn.state l.fn.row) l.piece l.index (at_row l.state l.row);
  open_ : IsOpen l.state l.row;
  within : l.index ≤ length l.piece;
}

abbrev pub decreases-loop-index : goal.decreases-loop-index
decreases-loop-index l = length l.piece - l.index
