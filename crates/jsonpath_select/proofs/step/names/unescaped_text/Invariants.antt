use Rattle.std.proofs.Common.{◌≡◌, ◌++◌, string_bytes, length, chars, encode_utf8_all}
use Rattle.jsonpath_paths.specs.text.TextPlace.{ahead}
use Rattle.jsonpath_paths.specs.text.Characters.{unescaped}
use Rattle.jsonpath_select.proofs.step.QuotedLemmas.{held}
use Rattle.jsonpath_select.proofs.step.names.unescaped_text.Given as goal

abbrev pub invariant-loop-c : goal.invariant-loop-c
invariant-loop-c l = string_bytes l.plain ++ encode_utf8_all (unescaped (held l.is_escaped (ahead l.reader))) ≡ encode_utf8_all (unescaped (chars l.text))

abbrev pub decreases-loop-c : goal.decreases-loop-c
decreases-loop-c l = length (ahead l.reader)
