use Rattle.std.proofs.Common.{◌++◌, ap, ap₂, ◌∙◌, List, ℕ, encode_utf8_all}
use Rattle.jsonpath_paths.specs.text.TextPlace.{ahead, Place}
use Rattle.jsonpath_paths.specs.text.Characters.{unescaped}
use Rattle.jsonpath_select.proofs.step.QuotedLemmas.{ahead-start}
use Rattle.jsonpath_select.proofs.step.names.unescaped_text.Goals as goal

pub loop-c-init : goal.loop-c-init
loop-c-init c =
    ap₂ (λ (xs : List ℕ) (p : Place). xs ++ encode_utf8_all (unescaped (ahead p))) c.new-plain.ensures.bytes c.new-reader.ensures
    ∙ ap (λ (xs : List ℕ). encode_utf8_all (unescaped xs)) (ahead-start c.args.text.now)
