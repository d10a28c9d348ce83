use Rattle.std.proofs.Common.{option_map, sym, ap, ◌∙◌}
use Rattle.json.specs.Find.{get_member}
use Rattle.json.specs.Json.{no_members}
use Rattle.json.specs.Value.{value_view, members_view}
use Rattle.json_trees.specs.ExactDocument.{exact_document}
use Rattle.json_trees.proofs.DocumentLemmas.{before_none, map_twice, members_found}
use Rattle.json_trees.proofs.ordered_tree.tree.OrderedValueTree.member_named.Goals as goal

pub returns-clause-value : goal.returns-clause-value
returns-clause-value c =
    let ms = members_view c.args.object.members.now.items in
    map_twice (λ m. value_view m.1.value.now) exact_document c.member.result ∙ ap (option_map exact_document) c.member.ensures.value
    ∙ sym (members_found c.args.name.now ms no_members ∙ before_none (get_member c.args.name.now ms))
