use Rattle.std.proofs.Common.{◌≡◌, false, take}
use Rattle.json.specs.Print.{escape}
use Rattle.jpath_texts.proofs.output.quoted_text.has_escapes.Given as goal

abbrev pub invariant-loop-byte : goal.invariant-loop-byte
invariant-loop-byte l = l.has_escapes ≡ false → escape (take l.byte-index l.text) ≡ take l.byte-index l.text
