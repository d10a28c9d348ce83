use Rattle.std.proofs.Common.{◌++◌, List, ℕ, ap, rules}
use Rattle.jpath_words.specs.Arguments.{with_point}
use Rattle.jpath_words.proofs.arguments.filled_path.takes_words_about_point.Goals as goal

pub returns : goal.returns
returns c = λ h.
    let whole = c.args.whole.now in
    let parts = c.split_text.result in
    with_point whole parts.0.now parts.1.now (ap (λ (bs : List ℕ). whole ++ bs) c.split_text.ensures.whole) (c.takes_text.ensures (search rules)) (c.takes_text-2.ensures (search rules)) (c.takes_text-3.ensures h)
