use Rattle.std.proofs.Common.{List, ℕ, ◌++◌, string_bytes}
use Rattle.std.specs.Str.{IsUtf8}
use Rattle.jpath_words.specs.Arguments.{IsFilled}
use Rattle.jpath_words.proofs.arguments.filled_path.filled_path.Given as goal

abbrev pub invariant-loop : goal.invariant-loop
invariant-loop l = IsUtf8 l.rest × ((further : List ℕ) → IsFilled l.fn.arguments l.rest further → IsFilled l.fn.arguments l.fn.path (string_bytes l.made ++ further))
