use Rattle.jsonpath_lib.proofs.FoundLemmas.{Completes}
use Rattle.jsonpath_lib.proofs.update.several_paths.select_paths_in_any_order.Given as goal

abbrev pub invariant-loop-path : goal.invariant-loop-path
invariant-loop-path g l = Completes g.T.Name.Name.bytes g.T.Tree.content l.paths l.path-index (g.T.Tree.content l.root) l.nodes.items
