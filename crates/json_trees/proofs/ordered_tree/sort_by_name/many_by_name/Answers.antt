use Rattle.json_trees.proofs.SortLemmas.{one_more_in_map}
use Rattle.json_trees.proofs.ordered_tree.sort_by_name.many_by_name.Goals as goal

pub loop-name-preserved : goal.loop-name-preserved
loop-name-preserved g c = one_more_in_map c.loop-name.yielded c.loop-name.found.entries c.in-Some.name c.in-Some.value c.in_ok-insert.ensures.entries c.loop-name.invariant

pub loop-name-preserved-in_ok-insert : goal.loop-name-preserved-in_ok-insert
loop-name-preserved-in_ok-insert g c = one_more_in_map c.loop-name.yielded c.loop-name.found.entries c.in-Some.name c.in-Some.value c.in_ok-insert.ensures.entries c.loop-name.invariant
