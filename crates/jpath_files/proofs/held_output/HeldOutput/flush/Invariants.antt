use Rattle.std.proofs.Common.{◌≡◌, ◌++◌, length}
use Rattle.jpath_files.proofs.held_output.HeldOutput.flush.Given as goal

abbrev pub invariant-loop-self : goal.invariant-loop-self
invariant-loop-self g l = record {
  same : g.W.Output.written l.self.writer ++ l.self.bytes.items ≡ g.W.Output.written l.initial.self.writer ++ l.initial.self.bytes.items;
  works : g.W.Output.has_failed l.self.writer ≡ g.W.Output.has_failed l.initial.self.writer;
}

abbrev pub decreases-loop-self : goal.decreases-loop-self
decreases-loop-self g l = length l.self.bytes.items
