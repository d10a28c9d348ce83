use Rattle.std.proofs.Common.{sym, ◌∙◌}
use Rattle.json.specs.Value.{value_view}
use Rattle.jpath_texts.proofs.output.arranged.rearranged.Goals as goal

pub returns-then-is_tree_ordered-clause-stands : goal.returns-then-is_tree_ordered-clause-stands
returns-then-is_tree_ordered-clause-stands c = λ none. rw c.if-is_sorted.true (c.trees_are_put_in_order.ensures.stands (value_view c.args.value.now) (sym c.is_tree_ordered.ensures ∙ c.if-is_tree_ordered.true))
