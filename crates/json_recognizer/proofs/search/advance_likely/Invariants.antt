use Rattle.std.proofs.Common.{◌-◌, ◌≤◌, length}
use Rattle.json_recognizer.specs.plan.Rows.{IsOpen, at_row, Reaches}
use Rattle.json_recognizer.specs.declared.state.State.{State}
use Rattle.json_recognizer.proofs.search.advance_likely.Given as goal

abbrev pub invariant-loop-index : goal.invariant-loop-index
invariant-loop-index l = record {
  found : (s₀ : State) → Reaches s₀ l.piece l.fn.index (at_row l.fn.state l.fn.row) → Reaches s₀ l.piece l.index (at_row l.state l.row);
  open_ : IsOpen l.state l.row;
  from : l.fn.index ≤ l.index;
  within : l.index ≤ length l.piece;
}

abbrev pub decreases-loop-index : goal.decreases-loop-index
decreases-loop-index l = length l.piece - l.index
