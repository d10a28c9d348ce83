use Rattle.std.proofs.Common.{arith}
use Rattle.json_trees.proofs.OrderLemmas.{items_counted}
use Rattle.json_trees.proofs.ordered_tree.tree.OrderedValueTree.len.Goals as goal

pub returns : goal.returns
returns c = omega (arith, c.len.ensures, c.args.array.items.now.ok.0, items_counted c.args.array.items.now.items)
