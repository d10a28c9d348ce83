use Rattle.std.proofs.Common.{option_map, sym, ap, ◌∙◌}
use Rattle.json.specs.Value.{value_view, items_view}
use Rattle.json_trees.specs.ExactDocument.{exact_document}
use Rattle.json_trees.proofs.DocumentLemmas.{items_found, map_twice}
use Rattle.json_trees.proofs.ordered_tree.tree.OrderedValueTree.item_at.Goals as goal

pub returns : goal.returns
returns c =
    map_twice (λ v. value_view v.value.now) exact_document c.item.result ∙ ap (option_map exact_document) c.item.ensures
    ∙ sym (items_found c.args.index (items_view c.args.array.items.now.items))
