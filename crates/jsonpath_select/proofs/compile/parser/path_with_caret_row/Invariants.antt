use Rattle.std.proofs.Common.{◌≡◌, ◌++◌, replicate, codes, string_bytes}
use Rattle.jsonpath_select.proofs.compile.parser.path_with_caret_row.Given as goal

abbrev pub invariant-loop : goal.invariant-loop
invariant-loop l = string_bytes l.message ≡ l.path ++ (codes "\n" ++ replicate l.counter 94)
