use Rattle.std.proofs.Common.{◌≡◌, ◌+◌, ◌*◌, ◌≤◌, map, drop, option_map}
use Rattle.jsonpath_nodes.specs.document.Document.{depth, items_depth, members_depth}
use Rattle.jsonpath_nodes.specs.document.Find.{members_len}
use Rattle.jsonpath_nodes.specs.place.Order.{NamesAscend}
use Rattle.jsonpath_nodes.specs.update.Topmost.{items_with_answer, members_with_answer}
use Rattle.jpath_edits.proofs.ChangedValueLemmas.{ItemsLeft, items_from, MembersLeft}
use Rattle.jpath_edits.proofs.changed_value.+changed.Given as goal

abbrev pub decreases-is_changed_value : goal.decreases-is_changed_value
decreases-is_changed_value g l = 3 * depth (g.B.Tree.content l.before) + 2

abbrev pub decreases-are_changed_items : goal.decreases-are_changed_items
decreases-are_changed_items g l = 3 * items_depth (g.B.Tree.items l.items) + 4

abbrev pub decreases-are_changed_members : goal.decreases-are_changed_members
decreases-are_changed_members g l = 3 * members_depth (g.B.Tree.members l.members) + 4

abbrev pub decreases-is_changed_child : goal.decreases-is_changed_child
decreases-is_changed_child g l = 3 * depth (g.B.Tree.content l.before) + 3

abbrev pub invariant-are_changed_items-loop-index : goal.invariant-are_changed_items-loop-index
invariant-are_changed_items-loop-index g l =
    let answer = option_map (λ v. g.N.Tree.content v) l.fn.new in
    let items = g.B.Tree.items l.fn.items in
    ItemsLeft answer l.index (map (drop l.fn.depth) l.rest) (items_from l.index items) (g.A.Tree.items_left l.left)
    → g.A.Tree.items l.fn.others ≡ items_with_answer answer (map (drop l.fn.depth) l.fn.places) 0 items

abbrev pub invariant-are_changed_members-loop-member : goal.invariant-are_changed_members-loop-member
invariant-are_changed_members-loop-member g l =
    let answer = option_map (λ v. g.N.Tree.content v) l.fn.new in
    let left = g.B.Tree.members_left l.left in
    let all = g.B.Tree.members l.fn.members in
    record {
      changed : MembersLeft answer (map (drop l.fn.depth) l.rest) left (g.A.Tree.members_left l.others_left)
          → g.A.Tree.members l.fn.others ≡ members_with_answer answer (map (drop l.fn.depth) l.fn.places) all;
      ascend : NamesAscend left;
      within : members_depth left ≤ members_depth all;
    }

abbrev pub decreases-are_changed_members-loop-member : goal.decreases-are_changed_members-loop-member
decreases-are_changed_members-loop-member g l = members_len (g.B.Tree.members_left l.left)
