use Rattle.std.proofs.Common.{◌≡◌, drop}
use Rattle.json.specs.Value.{items_view, members_view}
use Rattle.json_trees.specs.AsRead.{tree_items_as_read, tree_members_as_read}
use Rattle.json_trees.proofs.PrintLemmas.{ItemsLeft, MembersLeft}
use Rattle.json_trees.proofs.printing.+tree.Given as goal

abbrev pub invariant-add_trees-loop-item : goal.invariant-add_trees-loop-item
invariant-add_trees-loop-item l =
    let items = l.item-items in
    record {
      before : l.writer.before ≡ l.fn.writer.before;
      printed : ItemsLeft l.fn.writer.tokens l.writer.tokens (tree_items_as_read (items_view (drop l.item-index items))) (tree_items_as_read (items_view items));
    }

abbrev pub invariant-add_named_trees-loop-member : goal.invariant-add_named_trees-loop-member
invariant-add_named_trees-loop-member l =
    let members = l.member-items in
    record {
      before : l.writer.before ≡ l.fn.writer.before;
      printed : MembersLeft l.fn.writer.tokens l.writer.tokens (tree_members_as_read (members_view (drop l.member-index members))) (tree_members_as_read (members_view members));
    }
