use Rattle.std.proofs.Common.{◌≡◌, ◌≤◌, ◌-◌, List, Option, take, drop, length}
use Rattle.jsonpath_paths.specs.tree.Tree.{Condition, PathSteps}
use Rattle.jsonpath_nodes.specs.place.Location.{Location}
use Rattle.jsonpath_nodes.specs.place.Mark.{MarksStandAt}
use Rattle.jsonpath_select.specs.Meaning.{follow}
use Rattle.jsonpath_select.specs.plan.First.{CodesOptionalCondition, kept_by}
use Rattle.jsonpath_select.specs.plan.NextFilter.{CodesSteps}
use Rattle.jsonpath_select.specs.plan.Standing.{IsStanding}
use Rattle.jsonpath_select.proofs.machine.machine.Machine.first_in_slices.Given as goal

-- the first place is where the starting places from here on lead
abbrev pub invariant-loop-from : goal.invariant-loop-from
invariant-loop-from g l =
    let text = l.self.text.now in
    let doc = g.M.Mark.content l.self.root.now in
    (l.from ≤ length l.starts)
    × ((f : Option Condition) (ss : PathSteps) (ls : List Location) → CodesOptionalCondition l.condition f → CodesSteps l.left ss → MarksStandAt g.M.Mark.located g.M.Mark.stand g.M.Mark.content doc ls l.starts → IsStanding l.standing ls
    → take 1 (follow text doc ss (kept_by text doc f ls)) ≡ take 1 (follow text doc ss (kept_by text doc f (drop l.from ls))))

abbrev pub decreases-loop-from : goal.decreases-loop-from
decreases-loop-from g l = length l.starts - l.from
