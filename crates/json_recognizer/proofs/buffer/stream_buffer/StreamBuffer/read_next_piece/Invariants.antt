use Rattle.std.proofs.Common.{◌≡◌, ℕ, List, ◌++◌, length, true, ◌+◌, ◌-◌, ◌^◌}
use Rattle.std.specs.Prelude.{if◌then◌else◌}
use Rattle.json_recognizer.specs.Buffer.{left, IsReady}
use Rattle.json_recognizer.proofs.buffer.stream_buffer.StreamBuffer.read_next_piece.Given as goal

abbrev pub invariant-pieces : goal.invariant-pieces
invariant-pieces g l = record {
  ready : IsReady l.self;
  place : l.self.place ≡ l.fn.self.place;
  whole : (l.fn.self.is_whole ≡ true → g.R.Input.has_ended l.fn.reader ≡ true) → l.self.is_whole ≡ true → g.R.Input.has_ended l.reader ≡ true;
  read : (more : List ℕ) × (g.R.Input.given l.reader ≡ g.R.Input.given l.fn.reader ++ more) × (left l.self ≡ left l.fn.self ++ more);
}

abbrev pub decreases-pieces : goal.decreases-pieces
decreases-pieces g l = (2 ^ 64 - length (left l.self)) + (if l.self.is_whole then 0 else 1)
