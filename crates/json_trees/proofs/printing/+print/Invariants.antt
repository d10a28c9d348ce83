use Rattle.std.proofs.Common.{◌≡◌, ◌+◌, ◌*◌, ◌≤◌}
use Rattle.jsonpath_nodes.specs.document.Document.{depth, items_depth, members_depth}
use Rattle.jsonpath_nodes.specs.document.Find.{items_len, members_len}
use Rattle.jsonpath_nodes.specs.place.Order.{NamesAscend}
use Rattle.jsonpath_nodes.specs.update.Topmost.{items_with_answer, members_with_answer}
use Rattle.json_trees.specs.AsRead.{text_document}
use Rattle.json_trees.specs.Changed.{answer_of}
use Rattle.json_trees.specs.Targets.{targets_view}
use Rattle.json_trees.specs.TextHandles.{text_items, text_members, text_items_left, text_members_left}
use Rattle.json_trees.proofs.PrintLemmas.{ItemsLeft, MembersLeft}
use Rattle.json_trees.proofs.printing.+print.Given as goal

abbrev pub decreases-add_value : goal.decreases-add_value
decreases-add_value l = 3 * depth (text_document l.value)

abbrev pub decreases-add_item : goal.decreases-add_item
decreases-add_item l = 3 * depth (text_document l.value) + 1

abbrev pub decreases-add_member : goal.decreases-add_member
decreases-add_member l = 3 * depth (text_document l.value) + 1

abbrev pub decreases-add_items : goal.decreases-add_items
decreases-add_items l = 3 * items_depth (text_items l.items) + 2

abbrev pub decreases-add_members : goal.decreases-add_members
decreases-add_members l = 3 * members_depth (text_members l.members) + 2

abbrev pub invariant-add_items-loop-item : goal.invariant-add_items-loop-item
invariant-add_items-loop-item l =
    let left = items_with_answer (answer_of l.replacement) (targets_view l.targets) l.index (text_items_left l.left) in
    let all = items_with_answer (answer_of l.replacement) (targets_view l.fn.targets) 0 (text_items l.items) in
    record {
      before : l.writer.before ≡ l.fn.writer.before;
      printed : ItemsLeft l.fn.writer.tokens l.writer.tokens left all;
      count : l.index + items_len (text_items_left l.left) ≡ items_len (text_items l.items);
      within : items_depth (text_items_left l.left) ≤ items_depth (text_items l.items);
    }

abbrev pub decreases-add_items-loop-item : goal.decreases-add_items-loop-item
decreases-add_items-loop-item l = items_len (text_items_left l.left)

abbrev pub invariant-add_members-loop-name : goal.invariant-add_members-loop-name
invariant-add_members-loop-name l =
    let left = members_with_answer (answer_of l.replacement) (targets_view l.targets) (text_members_left l.left) in
    let all = members_with_answer (answer_of l.replacement) (targets_view l.fn.targets) (text_members l.members) in
    record {
      before : l.writer.before ≡ l.fn.writer.before;
      printed : MembersLeft l.fn.writer.tokens l.writer.tokens left all;
      ascend : NamesAscend (text_members_left l.left);
      within : members_depth (text_members_left l.left) ≤ members_depth (text_members l.members);
    }

abbrev pub decreases-add_members-loop-name : goal.decreases-add_members-loop-name
decreases-add_members-loop-name l = members_len (text_members_left l.left)
