use Rattle.std.proofs.Common.{take}
use Rattle.jpath_words.specs.Asked.{AreEditsOf}
use Rattle.jpath_words.proofs.task.read_edits.Given as goal

abbrev pub invariant-loop-edit : goal.invariant-loop-edit
invariant-loop-edit g l = AreEditsOf (take l.edit-index l.words) l.edits.items
