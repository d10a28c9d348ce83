use Rattle.std.proofs.Common.{◌≡◌, ◌++◌, ◌-◌, ◌^◌, false, vec_len}
use Rattle.jsonpath_run.proofs.whole_streams.read_to_end.Given as goal

abbrev pub invariant-chunks : goal.invariant-chunks
invariant-chunks g l = record {
  works : g.R.Input.has_failed l.reader ≡ false;
  given : g.R.Input.given l.reader ≡ g.R.Input.given l.initial.reader ++ l.input.items;
}

abbrev pub decreases-chunks : goal.decreases-chunks
decreases-chunks g l = 2 ^ 64 - vec_len l.input
