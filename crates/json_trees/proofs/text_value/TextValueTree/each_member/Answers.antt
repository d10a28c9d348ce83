use Rattle.json.specs.Json.{no_members}
use Rattle.json.specs.Value.{members_view}
use Rattle.json_trees.proofs.AsReadLemmas.{ascend_as_read}
use Rattle.json_trees.specs.OrderedTree.{members_of_tree, members_in_order}
use Rattle.json_trees.proofs.text_value.TextValueTree.each_member.Goals as goal

pub returns-clause-ordered : goal.returns-clause-ordered
returns-clause-ordered c = ascend_as_read (members_of_tree (members_in_order (members_view c.args.object.members.now.items) no_members)) c.each_member.ensures.ordered
