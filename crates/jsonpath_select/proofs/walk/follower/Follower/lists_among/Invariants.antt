use Rattle.std.proofs.Common.{◌≡◌, [], ◌∷◌, List, drop}
use Rattle.std.specs.List.{AllByRecursion}
use Rattle.jsonpath_nodes.specs.place.Location.{Location}
use Rattle.jsonpath_nodes.specs.place.Order.{IsOrderedDocument}
use Rattle.jsonpath_paths.specs.tree.View.{steps_of_list}
use Rattle.jsonpath_select.specs.Meaning.{follow}
use Rattle.jsonpath_select.specs.plan.LeadingOn.{AreAfterEach, leading_from_root, set_from_root}
use Rattle.jsonpath_select.specs.plan.Machine.{Tagged, spread}
use Rattle.jsonpath_select.specs.plan.Shown.{Shows}
use Rattle.jsonpath_select.proofs.tagged.DistinctLemmas.{IsThere}
use Rattle.jsonpath_select.proofs.walk.follower.Follower.lists_among.Given as goal

-- the marks stand among the places of the set, and the steps that are left lead from them to where all steps lead
abbrev pub invariant-loop-number : goal.invariant-loop-number
invariant-loop-number g l =
    IsOrderedDocument (g.M.Mark.content l.self.root.now) → (ps : List Tagged) → Shows g.M.Mark.located g.M.Mark.stand g.M.Mark.content (g.M.Mark.content l.self.root.now) ps l.root
    → AreAfterEach g.M.Mark.located g.M.Mark.stand g.M.Mark.content (g.M.Mark.content l.self.root.now) (leading_from_root l.self.sets l.self.text.now (g.M.Mark.content l.self.root.now) l.steps) l.kept
    → (ls : List Location)
    × Shows g.M.Mark.located g.M.Mark.stand g.M.Mark.content (g.M.Mark.content l.self.root.now) (spread (λ place. ls) 0 ([] ∷ [])) l.current
    × AllByRecursion (IsThere (set_from_root l.self.sets l.self.text.now (g.M.Mark.content l.self.root.now) l.steps l.number)) ls
    × (follow l.self.text.now (g.M.Mark.content l.self.root.now) (steps_of_list (drop l.number l.steps)) ls ≡ follow l.self.text.now (g.M.Mark.content l.self.root.now) (steps_of_list l.steps) ([] ∷ []))
