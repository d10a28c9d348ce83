use Rattle.std.proofs.Common.{◌∙◌}
use Rattle.jsonpath_nodes.specs.place.SpotPlace.{step_of}
use Rattle.json_trees.proofs.TargetsLemmas.{first_there}
use Rattle.json_trees.proofs.targets.compare_at_depth.Goals as goal

pub returns-in-Some-clause-order : goal.returns-in-Some-clause-order
returns-in-Some-clause-order c = c.compare_steps.ensures ∙ first_there c.args.depth c.args.path.now c.in-Some.there.now (step_of c.args.step) c.in-Some.ensures.lookup.3.0 c.in-Some.ensures.lookup.1
