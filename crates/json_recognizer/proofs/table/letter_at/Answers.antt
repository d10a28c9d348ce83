use Rattle.std.proofs.Common.{arith}
use Rattle.json_recognizer.proofs.Rows.{column_within, is_letter}
use Rattle.json_recognizer.proofs.table.letter_at.Goals as goal

pub overflow_sub-result-2 : goal.overflow_sub-result-2
overflow_sub-result-2 c = (column_within c.args.byte (omega arith)).0

pub bounds-byte-2 : goal.bounds-byte-2
bounds-byte-2 c = (column_within c.args.byte (omega arith)).1

pub returns : goal.returns
returns c = is_letter c.args.row c.args.byte c.requires (omega arith)
