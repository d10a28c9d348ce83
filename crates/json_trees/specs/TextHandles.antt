-- What handles to an array and to an object of a text's tree stand for, and what is left of them, as `serde_json` reads it.
use Rattle.json.specs.Json.{no_members}
use Rattle.json.specs.Value.{items_view, members_view}
use Rattle.jsonpath_nodes.specs.document.Document.{Items, Members}
use Rattle.json_trees.specs.AsRead.{items_as_read, members_as_read}
use Rattle.json_trees.specs.OrderedTree.{items_of_tree, members_of_tree, items_in_order, members_in_order, items_from, members_from}
use Rattle.json_trees.specs.declared.ordered_tree.handle.OrderedItems.{OrderedItems}
use Rattle.json_trees.specs.declared.ordered_tree.handle.OrderedMembers.{OrderedMembers}
use Rattle.json_trees.specs.declared.ordered_tree.tree.OrderedItemsLeft.{OrderedItemsLeft}
use Rattle.json_trees.specs.declared.ordered_tree.tree.OrderedMembersLeft.{OrderedMembersLeft}

abbrev pub text_items : OrderedItems → Items
text_items a = items_as_read (items_of_tree (items_in_order (items_view a.items.now.items)))

abbrev pub text_members : OrderedMembers → Members
text_members o = members_as_read (members_of_tree (members_in_order (members_view o.members.now.items) no_members))

abbrev pub text_items_left : OrderedItemsLeft → Items
text_items_left left = items_as_read (items_from left.index (items_of_tree (items_in_order (items_view left.array.items.now.items))))

abbrev pub text_members_left : OrderedMembersLeft → Members
text_members_left left = members_as_read (members_from left.index (members_of_tree (members_in_order (members_view left.object.members.now.items) no_members)))
