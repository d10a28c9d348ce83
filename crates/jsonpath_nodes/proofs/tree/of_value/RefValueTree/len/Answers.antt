use Rattle.std.proofs.Common.{arith}
use Rattle.jsonpath_nodes.proofs.tree.ValueLemmas.{items_len-items_view}
use Rattle.jsonpath_nodes.proofs.tree.of_value.RefValueTree.len.Goals as goal

pub returns : goal.returns
returns c = omega (arith, c.len.ensures, c.args.array.now.ok.0, items_len-items_view c.args.array.now.items)
