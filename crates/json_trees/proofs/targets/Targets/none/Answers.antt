use Rattle.std.specs.List.Sorted.{IsStrictlySortedBy}
use Rattle.json_trees.proofs.targets.Targets.none.Goals as goal

pub invariant_of-result : goal.invariant_of-result
unfolding IsStrictlySortedBy
invariant_of-result c = record { sorted = tt }
