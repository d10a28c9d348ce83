use Rattle.std.proofs.Common.{◌+◌, [], ◌∷◌, ◌++◌, sym, subst, take}
use Rattle.std.proofs.lemmas.List.{take_more}
use Rattle.jpath_words.specs.Arguments.{IsFilledEdit, Pairwise}
use Rattle.jpath_words.proofs.PairwiseLemmas.{pairwise_more}
use Rattle.jpath_words.proofs.arguments.filled_words.filled_edits.Goals as goal

pub loop-edit-preserved : goal.loop-edit-preserved
loop-edit-preserved c =
    let l = c.loop-edit in
    let all = IsFilledEdit c.args.arguments.now in
    let edits = c.args.edits.now in
    let edit = c.in_ok-filled_edit.field-0 in
    let more = pairwise_more all (take l.edit-index edits) l.filled.items _ edit l.invariant c.in_ok-filled_edit.ensures in
    subst (Pairwise all (take (l.edit-index + 1) edits)) (sym c.in_ok-push.ensures.items)
    (subst (λ es. Pairwise all es (l.filled.items ++ edit ∷ [])) (sym (take_more edits l.edit-index _ c.loop-edit-test.true)) more)
