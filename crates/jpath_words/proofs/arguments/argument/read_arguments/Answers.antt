use Rattle.std.proofs.Common.{◌+◌, [], ◌∷◌, ◌++◌, sym, subst, take}
use Rattle.std.proofs.lemmas.List.{take_more}
use Rattle.jpath_words.specs.Arguments.{IsArgumentOf, Pairwise}
use Rattle.jpath_words.proofs.PairwiseLemmas.{pairwise_more}
use Rattle.jpath_words.proofs.arguments.argument.read_arguments.Goals as goal

pub loop-words-preserved : goal.loop-words-preserved
loop-words-preserved g c =
    let l = c.loop-words in
    let words = c.args.words.now in
    let argument = c.in_ok-argument.argument in
    let more = pairwise_more IsArgumentOf (take l.words-index words) l.arguments.items _ argument l.invariant c.in_ok-argument.ensures in
    subst (Pairwise IsArgumentOf (take (l.words-index + 1) words)) (sym c.in_ok-push.ensures.items)
    (subst (λ ws. Pairwise IsArgumentOf ws (l.arguments.items ++ argument ∷ [])) (sym (take_more words l.words-index _ c.loop-words-test.true)) more)
