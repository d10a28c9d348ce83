use Rattle.std.proofs.Common.{◌≡◌, ℕ, List, ◌++◌, false, length}
use Rattle.jsonpath_run.proofs.whole_streams.write_all.Given as goal

abbrev pub invariant-loop-rest : goal.invariant-loop-rest
invariant-loop-rest g l = record {
  works : g.W.Output.has_failed l.writer ≡ false;
  written : (front : List ℕ) × (g.W.Output.written l.writer ≡ g.W.Output.written l.initial.writer ++ front) × (l.piece ≡ front ++ l.rest);
}

abbrev pub decreases-loop-rest : goal.decreases-loop-rest
decreases-loop-rest g l = length l.rest
