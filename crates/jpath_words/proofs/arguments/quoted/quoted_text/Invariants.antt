use Rattle.std.proofs.Common.{◌≡◌, ◌∷◌, string_bytes}
use Rattle.std.specs.Str.{encode_utf8_all}
use Rattle.jpath_words.specs.Arguments.{guarded}
use Rattle.jpath_words.proofs.arguments.quoted.quoted_text.Given as goal

abbrev pub invariant-loop-c : goal.invariant-loop-c
invariant-loop-c l = string_bytes l.quoted ≡ encode_utf8_all (39 ∷ guarded l.yielded)
