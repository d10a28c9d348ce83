use Rattle.std.proofs.Common.{sym, ◌∙◌}
use Rattle.jsonpath_nodes.specs.place.SpotPlace.{step_of}
use Rattle.json_trees.specs.Targets.{targets_view}
use Rattle.json_trees.proofs.TargetsLemmas.{none_through}
use Rattle.json_trees.proofs.targets.Targets.through.Goals as goal

pub returns-then-begin_behind-clause-here : goal.returns-then-begin_behind-clause-here
returns-then-begin_behind-clause-here c =
    c.none.ensures ∙ none_through (step_of c.args.step) (targets_view c.args.self.now) (sym c.begin_behind.ensures ∙ c.if-begin_behind.true) c.args.self.now.sorted
