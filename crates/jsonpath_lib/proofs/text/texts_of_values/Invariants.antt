use Rattle.std.proofs.Common.{map, take, string_bytes}
use Rattle.json_trees.specs.AsRead.{text_document}
use Rattle.jsonpath_lib.specs.Text.{AreTextsOf}
use Rattle.jsonpath_lib.proofs.text.texts_of_values.Given as goal

abbrev pub invariant-loop-value : goal.invariant-loop-value
invariant-loop-value l = AreTextsOf (map text_document (take l.value-index l.values)) (map string_bytes l.texts.items)
