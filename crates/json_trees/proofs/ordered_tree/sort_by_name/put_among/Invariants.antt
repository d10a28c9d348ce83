use Rattle.std.proofs.Common.{◌≡◌, ◌≤◌, ◌-◌, get_or, take}
use Rattle.json_trees.proofs.SortLemmas.{Passed}
use Rattle.json_trees.proofs.ordered_tree.sort_by_name.put_among.Given as goal

abbrev pub invariant-loop-at : goal.invariant-loop-at
invariant-loop-at g l =
    let xs = l.fn.named.items in (l.named.items ≡ xs) × (l.at ≤ l.sorted) × ((y : _) → y ≡ get_or xs l.sorted y → Passed (take l.sorted xs) l.at y.0.now y.1)

abbrev pub decreases-loop-at : goal.decreases-loop-at
decreases-loop-at g l = l.sorted - l.at
