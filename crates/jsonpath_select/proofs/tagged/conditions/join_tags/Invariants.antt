use Rattle.std.proofs.Common.{◌≡◌, ◌≤◌, ◌-◌, ◌++◌, length, drop}
use Rattle.jsonpath_select.specs.plan.Machine.{joined_tags}
use Rattle.jsonpath_select.proofs.tagged.conditions.join_tags.Given as goal

abbrev pub invariant-loop-tag : goal.invariant-loop-tag
invariant-loop-tag l =
    (l.left_from ≤ length l.left) × (l.right_from ≤ length l.right)
    × (l.tags.items ++ joined_tags l.op l.tag (l.count - l.tag) (drop l.left_from l.left) (drop l.right_from l.right) ≡ joined_tags l.op 0 l.count l.left l.right)
