use Rattle.std.proofs.Common.{List, take, ap, ap₂, ◌∙◌, arith}
use Rattle.std.proofs.lemmas.List.{take_all}
use Rattle.jsonpath_nodes.specs.place.Location.{Location}
use Rattle.jsonpath_nodes.specs.place.SpotPlace.{location_at, held_path_location}
use Rattle.jsonpath_nodes.specs.plan.DescentPath.{location_after}
use Rattle.jsonpath_nodes.proofs.step.DescentPathLemmas.{leads_there}
use Rattle.jsonpath_nodes.proofs.step.descend.descent_path.SharedPath.held_path_for_members.Goals as goal
use Rattle.jsonpath_nodes.specs.declared.step.descends.DownStep.{DownStep}

pub returns-clause-leads : goal.returns-clause-leads
returns-clause-leads g c =
    let t = c.share_up_to.new.self in
    let before = c.args.self.now in
    let count = c.len-count.result in
    c.in_ok-clone_held_path.ensures
    ∙ ap (held_path_location g.N.Name.bytes) c.index.ensures
    ∙ leads_there g.N.Name.bytes (location_at g.N.Name.bytes t.start) t.steps.items t.shared.items count c.index.result.now c.in_ok-share_up_to.ensures.descent (omega (arith, c.in_ok-share_up_to.ensures.shared, t.shared.ok.0))
    ∙ ap₂ (λ (l : Location) (steps : List (DownStep g.row.N.Denot)). location_after g.N.Name.bytes l (take count steps)) c.in_ok-share_up_to.ensures.start c.in_ok-share_up_to.ensures.steps
    ∙ ap (λ (steps : List (DownStep g.row.N.Denot)). location_after g.N.Name.bytes (location_at g.N.Name.bytes before.start) steps) (take_all count before.steps.items (omega arith))
