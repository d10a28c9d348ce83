use Rattle.std.proofs.Common.{List, ℕ, sym, subst}
use Rattle.jpath_words.specs.Arguments.{TakesPut}
use Rattle.jpath_words.proofs.arguments.filled_path.takes_number.Goals as goal

pub returns-in-Some : goal.returns-in-Some
returns-in-Some c = λ h.
    subst (λ (bs : List ℕ). TakesPut bs c.args.tokens.now.place c.takes_words_about_point.new.tokens.place) (sym c.split_text.ensures.whole) (c.takes_words_about_point.ensures h)
