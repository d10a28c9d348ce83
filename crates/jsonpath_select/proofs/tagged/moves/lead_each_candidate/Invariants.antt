use Rattle.std.proofs.Common.{◌≡◌, ◌≤◌, length, List}
use Rattle.jsonpath_nodes.specs.document.Document.{Document}
use Rattle.jsonpath_select.specs.plan.Machine.{Tagged}
use Rattle.jsonpath_select.specs.plan.Shown.{ArePairs, led}
use Rattle.jsonpath_select.proofs.tagged.GroupLemmas.{Turned}
use Rattle.jsonpath_select.proofs.tagged.moves.lead_each_candidate.Given as goal

abbrev pub invariant-loop-tag : goal.invariant-loop-tag
invariant-loop-tag g l =
    (l.from ≤ length l.old_tags) × (length l.old_tags ≡ length l.old_marks) × (length l.tags.items ≡ length l.marks.items)
    × ((doc : Document) (ps : List Tagged) → ArePairs g.M.Mark.located g.M.Mark.stand g.M.Mark.content doc ps l.old_tags l.old_marks → Turned g.M.Mark.located g.M.Mark.stand g.M.Mark.content doc (led doc l.by) ps l.count l.tag l.from l.tags.items l.marks.items)
