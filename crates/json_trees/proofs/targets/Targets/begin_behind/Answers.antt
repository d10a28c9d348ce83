use Rattle.std.proofs.Common.{List, ap, sym, ◌∙◌}
use Rattle.std.specs.Ordering.{is_gt}
use Rattle.jsonpath_nodes.specs.place.SpotPlace.{step_of}
use Rattle.json_trees.specs.StepsFrom.{begins_behind, steps_from}
use Rattle.json_trees.specs.declared.targets.StepList.{StepList}
use Rattle.json_trees.proofs.targets.Targets.begin_behind.Goals as goal

pub returns-in-Some : goal.returns-in-Some
returns-in-Some c =
    let t = c.args.self.now in
    c.is_gt.ensures ∙ ap is_gt c.compare_at_depth.ensures.order ∙ sym (ap (λ (paths : List StepList). begins_behind (step_of c.args.step) (steps_from t.depth paths)) c.in-Some.ensures.cases.0)
