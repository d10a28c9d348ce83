use Rattle.std.proofs.Common.{◌≡◌, ◌++◌, map, drop}
use Rattle.json.specs.Value.{value_view, members_view}
use Rattle.json_trees.specs.ExactAt.{values_named}
use Rattle.json_trees.proofs.ordered_tree.handle.OrderedMembers.each_value.Given as goal

-- the values so far and those of the members that are left
abbrev pub invariant-loop-member : goal.invariant-loop-member
invariant-loop-member l = map (λ m. value_view m.value.now) l.values.items ++ values_named l.name (members_view (drop l.member-index l.member-items)) ≡ values_named l.name (members_view l.member-items)
