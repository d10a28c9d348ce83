use Rattle.std.proofs.Common.{◌≡◌, [], ◌∷◌, drop, map}
use Rattle.json.specs.Token.{begin_array}
use Rattle.json_trees.specs.AsRead.{text_document}
use Rattle.json_trees.proofs.PrintLemmas.{ItemsLeft, items_list}
use Rattle.json_trees.proofs.printing.compact_list_text.Given as goal

abbrev pub invariant-loop-value : goal.invariant-loop-value
invariant-loop-value l = record {
  before : l.writer.before ≡ [];
  printed : ItemsLeft (begin_array ∷ []) l.writer.tokens (items_list (map text_document (drop l.value-index l.values))) (items_list (map text_document l.values));
}
