use Rattle.std.proofs.Common.{◌+◌, [], ◌∷◌, ◌++◌, sym, subst, take}
use Rattle.std.proofs.lemmas.List.{take_more}
use Rattle.jpath_words.specs.Asked.{AreEditsOf}
use Rattle.jpath_words.proofs.EditLemmas.{edits_more}
use Rattle.jpath_words.proofs.task.read_edits.Goals as goal

pub loop-edit-preserved : goal.loop-edit-preserved
loop-edit-preserved g c =
    let l = c.loop-edit in
    let words = c.args.words.now in
    let edit = c.in_ok-read_edit.field-0 in
    let more = edits_more (take l.edit-index words) l.edits.items _ edit l.invariant c.in_ok-read_edit.ensures in
    subst (AreEditsOf (take (l.edit-index + 1) words)) (sym c.in_ok-push.ensures.items)
    (subst (λ ws. AreEditsOf ws (l.edits.items ++ edit ∷ [])) (sym (take_more words l.edit-index _ c.loop-edit-test.true)) more)
