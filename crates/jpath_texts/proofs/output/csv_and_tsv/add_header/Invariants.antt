use Rattle.std.proofs.Common.{◌≡◌, map, take}
use Rattle.jpath_texts.proofs.output.csv_and_tsv.add_header.Given as goal

abbrev pub invariant-loop-name : goal.invariant-loop-name
invariant-loop-name l = map (λ f. f.items) l.fields.items ≡ map (λ n. n.now) (take l.name-index l.names)
