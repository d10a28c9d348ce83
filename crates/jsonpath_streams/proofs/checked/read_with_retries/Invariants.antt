use Rattle.std.proofs.Common.{◌≡◌, ◌++◌, true, Err, replicate}
use Rattle.std.specs.Io.KnownBytes.{Keeps}
use Rattle.jsonpath_streams.proofs.checked.read_with_retries.Given as goal

abbrev pub invariant-loop-turn : goal.invariant-loop-turn
invariant-loop-turn g l = record {
  keeps : Keeps (g.R.Read.remaining l.fn.inner.inner) (g.R.Read.remaining l.inner.inner);
  answers : l.inner.history.answers ≡ l.fn.inner.history.answers ++ replicate l._turn (Err true);
}
