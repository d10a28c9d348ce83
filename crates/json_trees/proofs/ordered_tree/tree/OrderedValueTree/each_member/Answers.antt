use Rattle.json.specs.Value.{members_view}
use Rattle.json_trees.proofs.PlacesLemmas.{names_in_order_ascend}
use Rattle.json_trees.proofs.ordered_tree.tree.OrderedValueTree.each_member.Goals as goal

pub returns-clause-ordered : goal.returns-clause-ordered
returns-clause-ordered c = names_in_order_ascend (members_view c.args.object.members.now.items)
