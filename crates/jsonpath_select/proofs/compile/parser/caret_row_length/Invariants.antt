use Rattle.jsonpath_select.proofs.compile.CaretLemmas.{IsBegun}
use Rattle.jsonpath_select.proofs.compile.parser.caret_row_length.Given as goal

abbrev pub invariant-loop-place : goal.invariant-loop-place
invariant-loop-place l = IsBegun l.bytes l.place l.row
