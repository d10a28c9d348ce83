use Rattle.std.proofs.Common.{option_map, sym, ap, ◌∙◌}
use Rattle.json.specs.Value.{items_view}
use Rattle.json_trees.proofs.AsReadLemmas.{item_as_read}
use Rattle.json_trees.specs.AsRead.{as_read}
use Rattle.json_trees.specs.OrderedTree.{items_of_tree, items_in_order}
use Rattle.json_trees.proofs.text_value.TextValueTree.item_at.Goals as goal

pub returns-in-None : goal.returns-in-None
returns-in-None c = ap (option_map as_read) c.in-None.ensures ∙ sym (item_as_read c.args.index (items_of_tree (items_in_order (items_view c.args.array.items.now.items))))

pub returns-in-Some : goal.returns-in-Some
returns-in-Some c = ap (option_map as_read) c.in-Some.ensures ∙ sym (item_as_read c.args.index (items_of_tree (items_in_order (items_view c.args.array.items.now.items))))
