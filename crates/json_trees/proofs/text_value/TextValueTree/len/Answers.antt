use Rattle.std.proofs.Common.{sym, ◌∙◌}
use Rattle.json.specs.Value.{items_view}
use Rattle.json_trees.proofs.AsReadLemmas.{items_counted_as_read}
use Rattle.json_trees.specs.OrderedTree.{items_of_tree, items_in_order}
use Rattle.json_trees.proofs.text_value.TextValueTree.len.Goals as goal

pub returns : goal.returns
returns c = c.len.ensures ∙ sym (items_counted_as_read (items_of_tree (items_in_order (items_view c.args.array.items.now.items))))
