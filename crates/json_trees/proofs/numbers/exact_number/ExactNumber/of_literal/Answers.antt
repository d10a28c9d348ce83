use Rattle.std.proofs.Common.{ap, ◌∙◌}
use Rattle.std.proofs.lemmas.Result.{IfOk-weaker}
use Rattle.json_trees.specs.OrderedTree.{text_fraction}
use Rattle.json_trees.proofs.numbers.LiteralLemmas.{literal_fraction}
use Rattle.json_trees.proofs.numbers.exact_number.ExactNumber.of_literal.Goals as goal

pub returns : goal.returns
returns c = IfOk-weaker c.of_text.result _ _ (λ number same. same ∙ ap text_fraction c.in_ok-text.ensures.text ∙ literal_fraction c.args.literal c.in_ok-text.ensures.fits) c.of_text.ensures
