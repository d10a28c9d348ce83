use Rattle.jsonpath_nodes.proofs.step.DescentLemmas.{flat_gathered}
use Rattle.jsonpath_nodes.proofs.step.candidates.add_in_objects.Goals as goal

pub returns-clause-gains : goal.returns-clause-gains
returns-clause-gains g c = rw (flat_gathered (g.M.Tree.Tree.content c.args.value) c.in_ok-add_at_or_below.ensures.document) at c.in_ok-add_at_or_below.ensures.gains
