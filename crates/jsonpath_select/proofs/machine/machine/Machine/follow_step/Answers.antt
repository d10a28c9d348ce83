use Rattle.std.proofs.Common.{◌≡◌, map, length, sym, ap, ◌∙◌}
use Rattle.jsonpath_nodes.specs.place.Mark.{MarksStandAt, shown}
use Rattle.jsonpath_select.specs.plan.Machine.{stepped}
use Rattle.jsonpath_select.proofs.walk.MarkLemmas.{length-marks}
use Rattle.jsonpath_select.proofs.machine.machine.Machine.follow_step.Goals as goal

pub returns-then-not-asks_standing : goal.returns-then-not-asks_standing
returns-then-not-asks_standing g c = λ ls from. (c.in_ok-marks.ensures (g.M.Mark.content c.args.self.now.root.now) ls (ap (map (shown g.M.Mark.stand g.M.Mark.content)) c.as_slice-before.ensures.value ∙ from.0), tt)

pub returns : goal.returns
returns g c = λ ls from.
    let doc = g.M.Mark.content c.args.self.now.root.now in
    let led = stepped c.args.self.now.text.now doc c.args.leaves c.args.token.now ls in
    let stood : MarksStandAt g.M.Mark.located g.M.Mark.stand g.M.Mark.content doc ls c.as_slice-before.result.now = ap (map (shown g.M.Mark.stand g.M.Mark.content)) c.as_slice-before.ensures.value ∙ from.0 in
    let there : MarksStandAt g.M.Mark.located g.M.Mark.stand g.M.Mark.content doc led c.in_ok-marks.marks.items = c.in_ok-marks.ensures doc ls stood in
    let so_many : length led ≡ length c.as_slice-count.result.now = sym (ap length c.as_slice-count.ensures.value ∙ length-marks g.M.Mark.located g.M.Mark.stand g.M.Mark.content doc led c.in_ok-marks.marks.items there) in
    (there, c.in_ok-standing.ensures ls stood so_many from.1)
