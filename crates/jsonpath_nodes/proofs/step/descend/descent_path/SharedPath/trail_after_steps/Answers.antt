use Rattle.std.proofs.Common.{◌≡◌, get_or, sym, ap, ◌∙◌, arith}
use Rattle.jsonpath_nodes.specs.place.SpotPlace.{location_at, held_path_location}
use Rattle.jsonpath_nodes.specs.declared.place.trail.HeldPathToContainer.{HeldPathToContainer}
use Rattle.jsonpath_nodes.specs.declared.place.trail.HeldPathToContainer.TheVariants.{Whole}
use Rattle.jsonpath_nodes.proofs.step.DescentPathLemmas.{leads_there, along_put}
use Rattle.jsonpath_nodes.proofs.step.descend.descent_path.SharedPath.trail_after_steps.Goals as goal

pub returns-in-Whole-clause-leads : goal.returns-in-Whole-clause-leads
returns-in-Whole-clause-leads g c =
    let t = c.args.self.now in
    ap (location_at g.N.Name.bytes) c.in_ok-clone.ensures.cases
    ∙ ap (held_path_location g.N.Name.bytes) (sym c.in-Whole.is ∙ c.index.ensures)
    ∙ leads_there g.N.Name.bytes (location_at g.N.Name.bytes t.start) t.steps.items t.shared.items c.args.count c.index.result.now c.requires.descent (omega arith)

pub returns-clause-leads : goal.returns-clause-leads
returns-clause-leads g c =
    let t = c.args.self.now in
    c.in_ok-trail.ensures
    ∙ ap (held_path_location g.N.Name.bytes) c.index-2.ensures
    ∙ leads_there g.N.Name.bytes (location_at g.N.Name.bytes t.start) t.steps.items t.shared.items c.args.count c.index-2.result.now c.requires.descent (omega arith)

pub returns-clause-descent : goal.returns-clause-descent
returns-clause-descent g c =
    let t = c.args.self.now in
    let l = location_at g.N.Name.bytes t.start in
    let made : HeldPathToContainer _ = Whole c.in_ok-clone-2.field-0 in
    let same : held_path_location g.N.Name.bytes made ≡ held_path_location g.N.Name.bytes (get_or t.shared.items c.args.count made) =
    ap (location_at g.N.Name.bytes) c.in_ok-clone-2.ensures.cases
    ∙ c.in_ok-trail.ensures
    ∙ ap (held_path_location g.N.Name.bytes) c.index-2.ensures
    ∙ leads_there g.N.Name.bytes l t.steps.items t.shared.items c.args.count c.index-2.result.now c.requires.descent (omega arith)
    ∙ sym (leads_there g.N.Name.bytes l t.steps.items t.shared.items c.args.count made c.requires.descent (omega arith)) in
    along_put g.N.Name.bytes l t.steps.items t.shared.items c.args.count made c.requires.descent same
