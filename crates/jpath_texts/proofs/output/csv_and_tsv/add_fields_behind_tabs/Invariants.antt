use Rattle.std.proofs.Common.{◌≡◌, ◌++◌, map, take}
use Rattle.jpath_texts.specs.Rows.{behind_tabs}
use Rattle.jpath_texts.proofs.output.csv_and_tsv.add_fields_behind_tabs.Given as goal

abbrev pub invariant-loop-field : goal.invariant-loop-field
invariant-loop-field l = l.out.items ≡ l.initial.out.items ++ behind_tabs (map (λ f. f.items) (take l.field-index l.fields))
