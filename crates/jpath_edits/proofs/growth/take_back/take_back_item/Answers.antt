use Rattle.std.proofs.Common.{ap, ◌∙◌}
use Rattle.json.specs.Value.{items_view}
use Rattle.jpath_edits.specs.Grown.{with_last_item}
use Rattle.jpath_edits.proofs.GrowthLemmas.{item_last}
use Rattle.jpath_edits.proofs.growth.take_back.take_back_item.Goals as goal

pub returns-in-Some : goal.returns-in-Some
returns-in-Some c = λ right.
    let left = c.pop.new.self.items in
    ap items_view c.in-Some.ensures.items ∙ item_last left c.in-Some.last ∙ ap (λ v. with_last_item v (items_view left)) (c.is_same_exact_tree.ensures right)
