use Rattle.std.proofs.Common.{◌≡◌, ◌≤◌, false, drop, length}
use Rattle.json.specs.Value.{members_view}
use Rattle.jpath_edits.specs.Grown.{has_name}
use Rattle.jpath_edits.proofs.growth.take_back.last_index_of_name.Given as goal

abbrev pub invariant-loop-left : goal.invariant-loop-left
invariant-loop-left l = (l.left ≤ length l.members) × (has_name l.name (members_view (drop l.left l.members)) ≡ false)

abbrev pub decreases-loop-left : goal.decreases-loop-left
decreases-loop-left l = l.left
