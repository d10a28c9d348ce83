use Rattle.std.proofs.Common.{◌≡◌, ◌-◌, List, map, length, take, vec_len, sym, ap, ◌∙◌, arith}
use Rattle.std.proofs.lemmas.List.{length-map, take-map}
use Rattle.jsonpath_nodes.specs.place.Location.{Location, Step}
use Rattle.jsonpath_nodes.specs.plan.Way.{down_step, without_last}
use Rattle.jsonpath_nodes.proofs.place.spot_nodes.TreeNodeDescends.go_back.Goals as goal

pub returns-clause-steps : goal.returns-clause-steps
returns-clause-steps g c =
    let own_step = down_step g.T.Name.Name.bytes in
    let t = c.way.inside.path in
    let count : vec_len t.steps - 1 ≡ length (map own_step t.steps.items) - 1 = omega (arith, length-map t.steps.items own_step, t.steps.ok.0) in
    ap (map own_step) c.go_step_up.ensures.steps ∙ sym (take-map own_step (vec_len t.steps - 1) t.steps.items) ∙ ap (λ n. take n (map own_step t.steps.items)) count
    ∙ ap (λ (p : Location × List Step). without_last p.1) c.way.view_is
