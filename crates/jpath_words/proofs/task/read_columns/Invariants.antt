use Rattle.std.proofs.Common.{◌≡◌, length}
use Rattle.jpath_words.proofs.task.read_columns.Given as goal

abbrev pub invariant-loop-text : goal.invariant-loop-text
invariant-loop-text g l = record {
  names : length l.names.items ≡ l.text-index;
  columns : length l.columns.items ≡ l.text-index;
}
