use Rattle.std.proofs.Common.{◌≡◌, ◌≤◌, ◌-◌, drop, length}
use Rattle.json_trees.specs.NumberKey.{zeros}
use Rattle.json_trees.proofs.numbers.number_key.without_last_zeros.Given as goal

abbrev pub invariant-loop-end : goal.invariant-loop-end
invariant-loop-end l = (l.end ≤ length l.digits) × (drop l.end l.digits ≡ zeros (length l.digits - l.end))

abbrev pub decreases-loop-end : goal.decreases-loop-end
decreases-loop-end l = l.end
