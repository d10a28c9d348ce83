use Rattle.std.proofs.Common.{false}
use Rattle.jpath_words.specs.Arguments.{Fills, start_of}
use Rattle.jpath_words.proofs.arguments.filled_path.keeps_tokens.Given as goal

abbrev pub invariant-loop : goal.invariant-loop
invariant-loop l = Fills l.fn.arguments l.is_behind_dot l.typed.place l.put.place → Fills l.fn.arguments false (start_of l.fn.path) (start_of l.fn.made)
