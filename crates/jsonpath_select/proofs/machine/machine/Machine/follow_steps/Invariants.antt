use Rattle.std.proofs.Common.{List, take}
use Rattle.jsonpath_nodes.specs.place.Location.{Location}
use Rattle.jsonpath_select.specs.plan.Standing.{along, AreStanding}
use Rattle.jsonpath_select.proofs.machine.machine.Machine.follow_steps.Given as goal

-- the marks stand where the steps so far lead, and that is known of it
abbrev pub invariant-loop-step : goal.invariant-loop-step
invariant-loop-step g l =
    (ls : List Location) → AreStanding g.M.Mark.located g.M.Mark.stand g.M.Mark.content (g.M.Mark.content l.self.root.now) ls l.fn.from
    → AreStanding g.M.Mark.located g.M.Mark.stand g.M.Mark.content (g.M.Mark.content l.self.root.now) (along l.self.text.now (g.M.Mark.content l.self.root.now) (take l.step-index l.steps) ls) l.led
