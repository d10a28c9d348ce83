use Rattle.json_trees.proofs.OrderedTreeLemmas.{ordered_stands, numbers_in_order}
use Rattle.json_trees.proofs.laws.trees_are_put_in_order.Goals as goal

pub returns-clause-stands : goal.returns-clause-stands
returns-clause-stands c = ordered_stands

pub returns-clause-numbers : goal.returns-clause-numbers
returns-clause-numbers c = numbers_in_order
