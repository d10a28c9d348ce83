use Rattle.std.proofs.Common.{refl, subst, string_bytes}
use Rattle.jpath_words.specs.Arguments.{IsFilledText}
use Rattle.jpath_words.proofs.arguments.filled_words.filled_edit.Goals as goal

pub returns : goal.returns
returns c = (refl, subst (λ bs. IsFilledText c.args.arguments.now bs (string_bytes c.in_ok-path.path)) c.path.ensures c.in_ok-path.ensures)
