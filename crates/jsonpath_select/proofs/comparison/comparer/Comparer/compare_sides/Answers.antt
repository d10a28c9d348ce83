use Rattle.std.proofs.Common.{ap, ◌∙◌}
use Rattle.jsonpath_select.specs.plan.Machine.{compared}
use Rattle.jsonpath_select.proofs.comparison.FlippedLemmas.{compared_flipped}
use Rattle.jsonpath_select.proofs.comparison.comparer.Comparer.compare_sides.Goals as goal

pub returns-in_ok-tags-in-true-false : goal.returns-in_ok-tags-in-true-false
returns-in_ok-tags-in-true-false g c = λ doc a b ha hb.
    c.in_ok-tags-in-true-false.ensures doc b a hb ha ∙ ap (λ f. compared doc f 0 c.args.self.now.count b a) c.with_sides_swapped.ensures ∙ compared_flipped doc c.args.self.now.op 0 c.args.self.now.count a b
