use Rattle.std.proofs.Common.{option_map, sym, ap, ◌∙◌}
use Rattle.json.specs.Json.{no_members}
use Rattle.json.specs.Value.{members_view}
use Rattle.json_trees.proofs.AsReadLemmas.{member_as_read}
use Rattle.json_trees.specs.AsRead.{as_read}
use Rattle.json_trees.specs.OrderedTree.{members_of_tree, members_in_order}
use Rattle.json_trees.proofs.text_value.TextValueTree.member_named.Goals as goal

pub returns-in-None-clause-value : goal.returns-in-None-clause-value
returns-in-None-clause-value c =
    ap (option_map as_read) c.in-None.ensures.value ∙ sym (member_as_read c.args.name.now (members_of_tree (members_in_order (members_view c.args.object.members.now.items) no_members)))

pub returns-in-Some-clause-value : goal.returns-in-Some-clause-value
returns-in-Some-clause-value c =
    ap (option_map as_read) c.in-Some.ensures.value ∙ sym (member_as_read c.args.name.now (members_of_tree (members_in_order (members_view c.args.object.members.now.items) no_members)))
