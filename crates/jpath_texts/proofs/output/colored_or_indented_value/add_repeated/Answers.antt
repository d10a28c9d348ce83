use Rattle.std.proofs.Common.{◌∷◌, [], ◌++◌, replicate, ap, ◌∙◌}
use Rattle.std.proofs.lemmas.List.{append_assoc, replicate-append-replicate}
use Rattle.jpath_texts.proofs.output.colored_or_indented_value.add_repeated.Goals as goal

pub loop-preserved : goal.loop-preserved
loop-preserved c =
    let l = c.loop in
    let byte = c.args.byte in
    c.in_ok-push.ensures.items ∙ ap (λ b. b ++ byte ∷ []) l.invariant ∙ append_assoc _ (replicate l.counter byte) _ ∙ ap (λ b. c.args.out.now.items ++ b) (replicate-append-replicate l.counter 1 byte)
