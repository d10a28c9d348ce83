use Rattle.std.proofs.Common.{◌≡◌, length}
use Rattle.jsonpath_paths.specs.plan.NextToken.{closes_at}
use Rattle.jsonpath_paths.specs.text.TextPlace.{ahead}
use Rattle.jsonpath_paths.proofs.token.tokenizer.read_past_closing_quote.Given as goal

abbrev pub invariant-loop-c : goal.invariant-loop-c
invariant-loop-c l = closes_at l.quote l.fn.reader ≡ closes_at l.quote l.reader

abbrev pub decreases-loop-c : goal.decreases-loop-c
decreases-loop-c l = length (ahead l.reader)
