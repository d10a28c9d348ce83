use Rattle.std.proofs.Common.{rules, sym, ap, ◌∙◌}
use Rattle.json.specs.Value.{value_view}
use Rattle.json_trees.specs.OrderedTree.{is_ordered}
use Rattle.json_trees.proofs.OrderLemmas.{order_stands}
use Rattle.json_trees.proofs.OrderedTreeLemmas.{in_order_ordered}
use Rattle.json_trees.proofs.ReadLemmas.{read_in_order}
use Rattle.json_trees.proofs.document.Document.read_in_order.Goals as goal

pub invariant_of-result : goal.invariant_of-result
invariant_of-result c = record {
  ordered = order_stands (value_view c.put_in_order.new.tree) ∙ ap is_ordered c.in-Ok-true.ensures.ordered ∙ in_order_ordered (value_view c.in_ok-exact.exact);
}

pub returns-in-Ok-true : goal.returns-in-Ok-true
returns-in-Ok-true c = read_in_order c.args.text.now (value_view c.in_ok-exact.exact) (value_view c.put_in_order.new.tree) (search rules) (sym c.in-Ok-true.field-0-test ∙ c.in-Ok-true.ensures.read) c.in-Ok-true.ensures.ordered
