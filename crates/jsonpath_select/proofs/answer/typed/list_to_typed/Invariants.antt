use Rattle.std.proofs.Common.{◌≡◌, vec_len}
use Rattle.jsonpath_select.proofs.answer.typed.list_to_typed.Given as goal

abbrev pub invariant-loop-value : goal.invariant-loop-value
invariant-loop-value g l = vec_len l.found ≡ l.value-index
