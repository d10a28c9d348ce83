use Rattle.std.proofs.Common.{◌≡◌, []}
use Rattle.json_trees.specs.TreeOrder.{by_names, put_each}
use Rattle.json_trees.proofs.ordered_tree.sort_by_name.many_by_name.Given as goal

abbrev pub invariant-loop-name : goal.invariant-loop-name
invariant-loop-name g l = by_names l.found.entries ≡ put_each (by_names l.yielded) []
