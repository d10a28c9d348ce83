use Rattle.std.proofs.Common.{◌≡◌, ◌++◌, take}
use Rattle.jpath_texts.specs.Rows.{guarded_field}
use Rattle.jpath_texts.proofs.output.csv_and_tsv.add_tsv_field.Given as goal

abbrev pub invariant-loop-byte : goal.invariant-loop-byte
invariant-loop-byte l = l.out.items ≡ l.initial.out.items ++ guarded_field (take l.byte-index l.field)
