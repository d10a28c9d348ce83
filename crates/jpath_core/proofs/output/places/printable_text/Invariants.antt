use Rattle.std.proofs.Common.{◌≡◌, string_bytes}
use Rattle.std.specs.Str.{encode_utf8_all}
use Rattle.jpath_core.specs.Printable.{printable_chars}
use Rattle.jpath_core.proofs.output.places.printable_text.Given as goal

abbrev pub invariant-loop-c : goal.invariant-loop-c
invariant-loop-c l = string_bytes l.made ≡ encode_utf8_all (printable_chars l.yielded)
