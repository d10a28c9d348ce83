use Rattle.std.proofs.Common.{◌≡◌, [], ◌∷◌, List, length}
use Rattle.jsonpath_select.specs.plan.LeadingOn.{AreAfterEach, set_from_root}
use Rattle.jsonpath_select.specs.plan.Machine.{Tagged, spread}
use Rattle.jsonpath_select.specs.plan.Shown.{Shows}
use Rattle.jsonpath_select.proofs.walk.follower.Follower.sets_after_each_step.Given as goal

abbrev pub invariant-loop-step : goal.invariant-loop-step
invariant-loop-step g l =
    (length l.sets.items ≡ l.step-index)
    × ((ps : List Tagged) → Shows g.M.Mark.located g.M.Mark.stand g.M.Mark.content (g.M.Mark.content l.self.root.now) ps l.root
    → AreAfterEach g.M.Mark.located g.M.Mark.stand g.M.Mark.content (g.M.Mark.content l.self.root.now) (set_from_root l.self.sets l.self.text.now (g.M.Mark.content l.self.root.now) l.steps) l.sets.items
    × Shows g.M.Mark.located g.M.Mark.stand g.M.Mark.content (g.M.Mark.content l.self.root.now) (spread (λ place. set_from_root l.self.sets l.self.text.now (g.M.Mark.content l.self.root.now) l.steps l.step-index) 0 ([] ∷ [])) l.current)
