use Rattle.std.proofs.Common.{◌≡◌, map, take}
use Rattle.jpath_texts.proofs.output.csv_and_tsv.fields_as_slices.Given as goal

abbrev pub invariant-loop-field : goal.invariant-loop-field
invariant-loop-field l = map (λ f. f.now) l.lent.items ≡ map (λ f. f.items) (take l.field-index l.fields)
