use Rattle.std.proofs.Common.{◌≡◌, drop}
use Rattle.json.specs.Value.{items_view, members_view}
use Rattle.jpath_edits.proofs.same_exact_tree.+same_exact.Given as goal

abbrev pub invariant-are_same_items-loop-index : goal.invariant-are_same_items-loop-index
invariant-are_same_items-loop-index l =
    items_view (drop l.index l.items.items) ≡ items_view (drop l.index l.others.items) → items_view l.items.items ≡ items_view l.others.items

abbrev pub invariant-are_same_members-loop-index : goal.invariant-are_same_members-loop-index
invariant-are_same_members-loop-index l =
    members_view (drop l.index l.members.items) ≡ members_view (drop l.index l.others.items) → members_view l.members.items ≡ members_view l.others.items
