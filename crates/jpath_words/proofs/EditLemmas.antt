-- Edits, read one after another.
use Rattle.std.proofs.Common.{List, [], ◌∷◌, ◌++◌}
use Rattle.jpath_words.specs.declared.command_line.EditWords.{EditWords}
use Rattle.jpath_words.specs.declared.task.Edit.{Edit}
use Rattle.jpath_words.specs.Asked.{IsEditOf, AreEditsOf}

-- one edit more
pub edits_more : (words : List EditWords) (edits : List Edit) (last : EditWords) (edit : Edit) → AreEditsOf words edits → IsEditOf last edit → AreEditsOf (words ++ last ∷ []) (edits ++ edit ∷ [])
edits_more [] [] last edit are is = (is, tt)
edits_more [] (e ∷ edits) last edit are is = absurd are
edits_more (w ∷ words) [] last edit are is = absurd are
edits_more (w ∷ words) (e ∷ edits) last edit are is = (are.0, edits_more words edits last edit are.1 is)
