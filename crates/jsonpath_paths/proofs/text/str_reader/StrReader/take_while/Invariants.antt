use Rattle.std.proofs.Common.{◌≡◌, ◌≤◌, ℕ, Bool, length}
use Rattle.std.specs.List.{take_while}
use Rattle.std.specs.Fn.{FnReturnsAt}
use Rattle.jsonpath_paths.specs.text.TextPlace.{ahead, past}
use Rattle.jsonpath_paths.specs.text.Characters.{Computes}
use Rattle.jsonpath_paths.proofs.text.str_reader.StrReader.take_while.Given as goal

abbrev pub invariant-loop-c : goal.invariant-loop-c
invariant-loop-c g l = record {
  same : l.ahead ≡ l.self;
  text : l.self.text ≡ l.fn.self.text;
  further : l.fn.self.pos ≤ l.self.pos;
  run : (test : ℕ → Bool) → Computes (λ c b. FnReturnsAt g.F.Fn l.fun c b) test
      → past l.self (take_while test (ahead l.self)) ≡ past l.fn.self (take_while test (ahead l.fn.self));
}

abbrev pub decreases-loop-c : goal.decreases-loop-c
decreases-loop-c g l = length (ahead l.ahead)
