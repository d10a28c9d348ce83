use Rattle.std.proofs.Common.{◌≡◌, length, List}
use Rattle.jsonpath_nodes.specs.document.Document.{Document}
use Rattle.jsonpath_select.specs.plan.Machine.{Tagged, places, itself}
use Rattle.jsonpath_select.specs.plan.Shown.{Shows}
use Rattle.jsonpath_select.proofs.tagged.GroupLemmas.{Spread}
use Rattle.jsonpath_select.proofs.tagged.start_of_paths.numbered_candidates.Given as goal

abbrev pub invariant-loop-tag : goal.invariant-loop-tag
invariant-loop-tag g l =
    (length l.tags.items ≡ length l.marks.items)
    × ((doc : Document) (ps : List Tagged) → Shows g.M.Mark.located g.M.Mark.stand g.M.Mark.content doc ps l.frame → Spread g.M.Mark.located g.M.Mark.stand g.M.Mark.content doc itself (places ps) l.tag l.tags.items l.marks.items)
