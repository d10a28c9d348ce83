use Rattle.std.proofs.Common.{◌∙◌}
use Rattle.json_trees.proofs.numbers.KeyOrderLemmas.{by_texts}
use Rattle.json_trees.proofs.numbers.number_key.NumberKey.compare.Goals as goal

pub returns : goal.returns
returns c = λ s t h i. c.cmp.ensures ∙ by_texts s t c.args.self.now c.args.other.now h i
