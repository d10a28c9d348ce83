use Rattle.std.proofs.Common.{◌+◌, [], ◌∷◌, ◌++◌, sym, subst, take, string_bytes}
use Rattle.std.proofs.lemmas.List.{take_more}
use Rattle.jpath_words.specs.Arguments.{AreFilled, IsFilledText}
use Rattle.jpath_words.proofs.PairwiseLemmas.{pairwise_more}
use Rattle.jpath_words.proofs.arguments.filled_words.filled_texts.Goals as goal

pub loop-text-preserved : goal.loop-text-preserved
loop-text-preserved c =
    let l = c.loop-text in
    let arguments = c.args.arguments.now in
    let texts = c.args.texts.now in
    let made = c.in_ok-filled_text.field-0 in
    let more = pairwise_more (λ t m. IsFilledText arguments t.now (string_bytes m)) (take l.text-index texts) l.filled.items _ made l.invariant c.in_ok-filled_text.ensures in
    subst (AreFilled arguments (take (l.text-index + 1) texts)) (sym c.in_ok-push.ensures.items)
    (subst (λ ts. AreFilled arguments ts (l.filled.items ++ made ∷ [])) (sym (take_more texts l.text-index _ c.loop-text-test.true)) more)
