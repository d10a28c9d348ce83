use Rattle.std.proofs.Common.{◌∙◌}
use Rattle.std.specs.Cow.{cow_str_bytes}
use Rattle.json_trees.proofs.numbers.FractionLemmas.{text_fractions, by_keys}
use Rattle.json_trees.proofs.numbers.exact_number.ExactNumber.order.Goals as goal

pub returns : goal.returns
returns c =
    let s = cow_str_bytes c.args.self.now.text in
    let t = cow_str_bytes c.args.other.now.text in
    by_keys s t c.args.self.now.key c.args.other.now.key c.compare.result c.args.self.now.keyed c.args.other.now.keyed (λ h i. c.compare.ensures s t h i) ∙ text_fractions s t
