use Rattle.std.proofs.Common.{is_some, refl, sym, ap, ◌∙◌, arith}
use Rattle.serde_json.specs.Read.{number_of}
use Rattle.serde_json.proofs.Numbers.{number_of-decimal}
use Rattle.json_trees.proofs.numbers.whole_number.is_number_read.Goals as goal

pub returns-then-is_short_whole : goal.returns-then-is_short_whole
returns-then-is_short_whole c =
    let w = c.if-is_short_whole.ensures refl in
    sym (ap (λ s. is_some (number_of s)) w.2 ∙ ap is_some (number_of-decimal w.0 (omega (arith, w.1))))
