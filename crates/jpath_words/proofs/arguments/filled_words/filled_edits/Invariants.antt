use Rattle.std.proofs.Common.{take}
use Rattle.jpath_words.specs.Arguments.{IsFilledEdit, Pairwise}
use Rattle.jpath_words.proofs.arguments.filled_words.filled_edits.Given as goal

abbrev pub invariant-loop-edit : goal.invariant-loop-edit
invariant-loop-edit l = Pairwise (IsFilledEdit l.arguments) (take l.edit-index l.edits) l.filled.items
