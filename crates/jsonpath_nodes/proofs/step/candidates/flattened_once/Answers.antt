use Rattle.jsonpath_nodes.proofs.step.AscendingLemmas.{leads_apart}
use Rattle.jsonpath_nodes.proofs.step.candidates.flattened_once.Goals as goal

pub returns-then-branch : goal.returns-then-branch
returns-then-branch g c = leads_apart g.T.Name.Name.bytes g.T.Tree.content c.args.places.now c.in_ok-found.found.items (c.in_ok-are_ordered_and_disjoint.ensures c.if-branch.true) c.in_ok-found.ensures
