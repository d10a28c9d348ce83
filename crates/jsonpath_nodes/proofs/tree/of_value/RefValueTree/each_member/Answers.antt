use Rattle.jsonpath_nodes.proofs.place.DocumentLemmas.{names_ascend}
use Rattle.jsonpath_nodes.proofs.tree.of_value.RefValueTree.each_member.Goals as goal

pub returns-clause-ordered : goal.returns-clause-ordered
returns-clause-ordered c = names_ascend c.args.object.now.entries c.iter.ensures.ordered
