use Rattle.std.proofs.Common.{◌≡◌, List, length}
use Rattle.jsonpath_paths.specs.tree.Tree.{PathSteps}
use Rattle.jsonpath_nodes.specs.place.Location.{Location}
use Rattle.jsonpath_select.specs.Meaning.{follow}
use Rattle.jsonpath_select.specs.plan.NextFilter.{CodesSteps}
use Rattle.jsonpath_select.specs.plan.Standing.{AreStanding}
use Rattle.jsonpath_select.proofs.machine.machine.Machine.lead_to_end.Given as goal

-- what stands to the left has led to places, of which this is known
abbrev pub invariant-loop-way : goal.invariant-loop-way
invariant-loop-way g l =
    let text = l.self.text.now in
    let doc = g.M.Mark.content l.self.root.now in
    (ss : PathSteps) (ks : List Location) → CodesSteps l.left ss → AreStanding g.M.Mark.located g.M.Mark.stand g.M.Mark.content doc ks l.fn.from
    → (later : PathSteps) × (ls : List Location) × CodesSteps l.rest later × AreStanding g.M.Mark.located g.M.Mark.stand g.M.Mark.content doc ls l.found × (follow text doc ss ks ≡ follow text doc later ls)

abbrev pub decreases-loop-way : goal.decreases-loop-way
decreases-loop-way g l = length l.rest
