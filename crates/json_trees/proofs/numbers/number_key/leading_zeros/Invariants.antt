use Rattle.std.proofs.Common.{◌≡◌, ◌≤◌, ◌-◌, take, length}
use Rattle.json_trees.specs.NumberKey.{zeros}
use Rattle.json_trees.proofs.numbers.number_key.leading_zeros.Given as goal

abbrev pub invariant-loop-count : goal.invariant-loop-count
invariant-loop-count l = (l.count ≤ length l.digits) × (take l.count l.digits ≡ zeros l.count)

abbrev pub decreases-loop-count : goal.decreases-loop-count
decreases-loop-count l = length l.digits - l.count
