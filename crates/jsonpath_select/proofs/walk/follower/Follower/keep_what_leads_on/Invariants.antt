use Rattle.std.proofs.Common.{◌≡◌, ◌≤◌, length}
use Rattle.jsonpath_nodes.specs.place.Order.{IsOrderedDocument}
use Rattle.jsonpath_select.specs.plan.LeadingOn.{AreAfterEach, leading_from_root, set_from_root}
use Rattle.jsonpath_select.proofs.walk.LeadingOnLemmas.{BackTo}
use Rattle.jsonpath_select.proofs.walk.follower.Follower.keep_what_leads_on.Given as goal

abbrev pub invariant-loop-number : goal.invariant-loop-number
invariant-loop-number g l =
    (length l.kept.items ≡ length l.steps) × (l.number ≤ length l.steps)
    × (IsOrderedDocument (g.M.Mark.content l.self.root.now)
    → AreAfterEach g.M.Mark.located g.M.Mark.stand g.M.Mark.content (g.M.Mark.content l.self.root.now) (set_from_root l.self.sets l.self.text.now (g.M.Mark.content l.self.root.now) l.steps) l.fn.sets.items
    → BackTo g.M.Mark.located g.M.Mark.stand g.M.Mark.content (g.M.Mark.content l.self.root.now) (set_from_root l.self.sets l.self.text.now (g.M.Mark.content l.self.root.now) l.steps) (leading_from_root l.self.sets l.self.text.now (g.M.Mark.content l.self.root.now) l.steps) l.number l.kept.items)

abbrev pub decreases-loop-number : goal.decreases-loop-number
decreases-loop-number g l = l.number
