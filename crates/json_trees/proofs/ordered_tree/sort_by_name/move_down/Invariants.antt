use Rattle.std.proofs.Common.{◌≡◌, ◌≤◌, ◌-◌, get_or}
use Rattle.std.specs.List.{insert, remove}
use Rattle.json_trees.proofs.ordered_tree.sort_by_name.move_down.Given as goal

abbrev pub invariant-loop-at : goal.invariant-loop-at
invariant-loop-at g l = ((d : _) → l.named ≡ insert (remove l.fn.named l.from) l.at (get_or l.fn.named l.from d)) × (l.to ≤ l.at) × (l.at ≤ l.from)

abbrev pub decreases-loop-at : goal.decreases-loop-at
decreases-loop-at g l = l.at - l.to
