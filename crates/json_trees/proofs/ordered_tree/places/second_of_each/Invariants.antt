use Rattle.std.proofs.Common.{◌≡◌, map, take}
use Rattle.json_trees.proofs.ordered_tree.places.second_of_each.Given as goal

abbrev pub invariant-loop-entry : goal.invariant-loop-entry
invariant-loop-entry l = l.made.items ≡ map (λ e. e.1) (take l.entry-index l.found)
