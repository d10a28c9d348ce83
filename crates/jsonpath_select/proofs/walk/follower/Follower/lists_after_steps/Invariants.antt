use Rattle.std.proofs.Common.{◌≡◌, [], ◌∷◌, List, drop}
use Rattle.jsonpath_nodes.specs.place.Location.{Location}
use Rattle.jsonpath_nodes.specs.place.Order.{IsOrderedDocument}
use Rattle.jsonpath_paths.specs.tree.View.{steps_of_list}
use Rattle.jsonpath_select.specs.Meaning.{follow}
use Rattle.jsonpath_select.specs.plan.Machine.{Tagged, spread}
use Rattle.jsonpath_select.specs.plan.Shown.{Shows}
use Rattle.jsonpath_select.proofs.walk.follower.Follower.lists_after_steps.Given as goal

-- the steps that are left lead from where the marks are now to where all steps lead
abbrev pub invariant-loop-step : goal.invariant-loop-step
invariant-loop-step g l =
    IsOrderedDocument (g.M.Mark.content l.self.root.now) → (ps : List Tagged) → Shows g.M.Mark.located g.M.Mark.stand g.M.Mark.content (g.M.Mark.content l.self.root.now) ps l.root
    → (ls : List Location)
    × Shows g.M.Mark.located g.M.Mark.stand g.M.Mark.content (g.M.Mark.content l.self.root.now) (spread (λ place. ls) 0 ([] ∷ [])) l.current
    × (follow l.self.text.now (g.M.Mark.content l.self.root.now) (steps_of_list (drop l.step-index l.steps)) ls ≡ follow l.self.text.now (g.M.Mark.content l.self.root.now) (steps_of_list l.steps) ([] ∷ []))
