use Rattle.std.proofs.Common.{length, ◌-◌, ◌≤◌}
use Rattle.json_recognizer.specs.plan.Rows.{IsOpen, at_row, Reaches}
use Rattle.json_recognizer.specs.declared.state.State.{State}
use Rattle.json_recognizer.proofs.search.pass_run.Given as goal

abbrev pub invariant-loop-next : goal.invariant-loop-next
invariant-loop-next l = record {
  found : (s₀ s : State) → IsOpen s l.row → Reaches s₀ l.piece l.at (at_row s l.row) → Reaches s₀ l.piece l.next (at_row s l.row);
  from : l.at ≤ l.next;
  within : l.next ≤ length l.piece;
}

abbrev pub decreases-loop-next : goal.decreases-loop-next
decreases-loop-next l = length l.piece - l.next
