use Rattle.std.proofs.Common.{◌≡◌, vec_len}
use Rattle.jsonpath_lib.proofs.text.typed_values.Given as goal

abbrev pub invariant-loop-text : goal.invariant-loop-text
invariant-loop-text g l = vec_len l.found ≡ l.text-index
