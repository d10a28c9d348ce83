use Rattle.std.proofs.Common.{ap, sym, ◌∙◌}
use Rattle.jsonpath_nodes.specs.place.SpotPlace.{step_of}
use Rattle.json_trees.specs.StepsFrom.{begins_with_step}
use Rattle.json_trees.specs.Targets.{targets_view}
use Rattle.json_trees.proofs.TargetsLemmas.{begins_there, from_there, keeps_over, none_there}
use Rattle.json_trees.proofs.targets.Targets.split_at_step.Goals as goal

pub split_front-requires-clause-first : goal.split_front-requires-clause-first
split_front-requires-clause-first c =
    ap (begins_with_step (step_of c.args.step)) c.after.ensures.rest
    ∙ begins_there (step_of c.args.step) c.loop-i.i (targets_view c.args.self) (from_there c.args.self.depth c.loop-i.i c.args.self.paths.now _ c.loop-i-test.true) (sym c.in-Equal.ensures.order)

pub returns-in-Greater-clause-here : goal.returns-in-Greater-clause-here
returns-in-Greater-clause-here c =
    c.none.ensures ∙ none_there (step_of c.args.step) c.loop-i.i (targets_view c.args.self) (from_there c.args.self.depth c.loop-i.i c.args.self.paths.now _ c.loop-i-test.true) (sym c.in-Greater.ensures.order) c.args.self.sorted c.loop-i.invariant

pub loop-i-preserved : goal.loop-i-preserved
loop-i-preserved c =
    keeps_over (step_of c.args.step) c.loop-i.i (targets_view c.args.self) (from_there c.args.self.depth c.loop-i.i c.args.self.paths.now _ c.loop-i-test.true) (sym c.in-Less.ensures.order) c.loop-i.invariant
