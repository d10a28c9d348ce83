use Rattle.std.proofs.Common.{sym, subst}
use Rattle.std.proofs.lemmas.Result.{IfOk-weaker}
use Rattle.jsonpath_select.specs.plan.Machine.{stepped}
use Rattle.jsonpath_select.specs.plan.Standing.{IsStanding}
use Rattle.jsonpath_select.proofs.machine.machine.Machine.standing_after_step.Goals as goal

pub returns-else-leaves : goal.returns-else-leaves
returns-else-leaves g c =
    let doc = g.M.Mark.content c.args.self.now.root.now in
    IfOk-weaker c.after_token.result _ _
    (λ next follows ls s. subst (λ leaves. IsStanding next (stepped c.args.self.now.text.now doc leaves c.args.token.now ls)) (sym c.if-leaves.false) (follows doc ls s)) c.after_token.ensures
