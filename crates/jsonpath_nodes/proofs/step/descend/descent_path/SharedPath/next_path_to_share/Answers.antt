use Rattle.std.proofs.Common.{◌≡◌, ◌+◌, ◌-◌, [], ◌∷◌, ◌++◌, take, vec_len, sym, ap, ap₂, ◌∙◌, arith}
use Rattle.jsonpath_nodes.specs.place.Location.{Step, Location}
use Rattle.jsonpath_nodes.specs.place.SpotPlace.{location_at, held_path_location}
use Rattle.jsonpath_nodes.specs.plan.DescentPath.{location_after}
use Rattle.jsonpath_nodes.specs.plan.Way.{down_step}
use Rattle.jsonpath_nodes.proofs.step.DescentPathLemmas.{leads_there, one_further}
use Rattle.jsonpath_nodes.proofs.step.descend.descent_path.SharedPath.next_path_to_share.Goals as goal

pub returns-in_ok-new-in-Member-clause-leads : goal.returns-in_ok-new-in-Member-clause-leads
returns-in_ok-new-in-Member-clause-leads g c =
    let t = c.args.self.now in
    let l = location_at g.N.Name.bytes t.start in
    let k = c.len-count.result - 1 in
    let count : k + 1 ≡ vec_len t.shared = omega arith in
    ap (location_at g.N.Name.bytes) c.in_ok-new-in-Member.ensures.ok
    ∙ c.member_trail-trail.ensures
    ∙ ap₂ (λ (m : Location) (s : Step). m ++ s ∷ [])
    (c.in_ok-held-in-Member.ensures ∙ ap (held_path_location g.N.Name.bytes) c.index-in-Member.ensures ∙ leads_there g.N.Name.bytes l t.steps.items t.shared.items k c.index-in-Member.result.now c.requires.descent (omega arith))
    (ap (down_step g.N.Name.bytes) (sym c.in-Member.is ∙ c.index.ensures))
    ∙ one_further g.N.Name.bytes l t.steps.items k c.index.result.now (omega arith)
    ∙ ap (λ n. location_after g.N.Name.bytes l (take n t.steps.items)) count
