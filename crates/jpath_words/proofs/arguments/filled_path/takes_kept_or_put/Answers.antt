use Rattle.std.proofs.Common.{List, ℕ, subst}
use Rattle.jpath_words.specs.Arguments.{TakesPut, kept, put}
use Rattle.jpath_words.proofs.arguments.filled_path.takes_kept_or_put.Goals as goal

pub returns-in-Some : goal.returns-in-Some
returns-in-Some c = λ h. let found = c.in-Some.ensures.some in put found.0 found.1 (subst (λ (bs : List ℕ). TakesPut bs c.args.put.now.place c.takes_put.new.tokens.place) c.as_str.ensures.value (c.takes_put.ensures h))

pub returns-in-None : goal.returns-in-None
returns-in-None c = λ h. kept (c.argument_at.ensures.none c.in-None.is) (c.takes_text.ensures h)
