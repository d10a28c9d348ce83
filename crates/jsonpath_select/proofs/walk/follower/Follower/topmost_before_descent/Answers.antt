use Rattle.std.proofs.Common.{Bool, sym, subst, cond}
use Rattle.std.proofs.lemmas.Result.{IfOk-weaker}
use Rattle.jsonpath_nodes.specs.place.Location.{Location}
use Rattle.jsonpath_nodes.specs.step.SameMembers.{topmost}
use Rattle.jsonpath_select.specs.plan.Machine.{spread}
use Rattle.jsonpath_select.specs.plan.Shown.{Shows}
use Rattle.jsonpath_select.proofs.walk.FollowerLemmas.{turned}
use Rattle.jsonpath_select.proofs.walk.follower.Follower.topmost_before_descent.Goals as goal

pub returns-then-leaves : goal.returns-then-leaves
returns-then-leaves g c =
    let located = g.M.Mark.located in
    let stand = g.M.Mark.stand in
    let content = g.M.Mark.content in
    IfOk-weaker c.lead_marks_of_candidates.result _ _
    (λ led leads doc f ls n shows.
    let found = turned located stand content doc topmost f ls c.args.lists led n (leads doc (spread f 0 ls) shows) in
    subst (λ (b : Bool). Shows located stand content doc (spread (λ (l : Location). cond b (topmost (f l)) (f l)) 0 ls) led) (sym c.if-leaves.true) found)
    c.lead_marks_of_candidates.ensures
