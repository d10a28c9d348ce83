use Rattle.std.proofs.Common.{◌≡◌, drop}
use Rattle.json.specs.Print.{escape}
use Rattle.jsonpath_select.proofs.answer.text.needs_no_escape.Given as goal

abbrev pub invariant-loop-b : goal.invariant-loop-b
invariant-loop-b l = escape (drop l.b-index l.bytes) ≡ drop l.b-index l.bytes → escape l.bytes ≡ l.bytes
