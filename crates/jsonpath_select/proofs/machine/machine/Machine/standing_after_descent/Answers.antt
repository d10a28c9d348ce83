use Rattle.std.proofs.lemmas.Result.{IfOk-weaker}
use Rattle.jsonpath_nodes.specs.step.Steps.{all_below}
use Rattle.jsonpath_select.proofs.machine.machine.Machine.standing_after_descent.Goals as goal

pub returns-in_default : goal.returns-in_default
returns-in_default g c =
    let doc = g.M.Mark.content c.args.self.now.root.now in
    IfOk-weaker c.after_token.result _ _ (λ next follows ls s. follows doc (all_below doc ls) (c.steps_keep_locations_disjoint.ensures.below doc ls c.value_is_document.ensures (c.are_disjoint.ensures c.if-not-are_disjoint.false ls s))) c.after_token.ensures
