use Rattle.std.proofs.Common.{◌≡◌, map, take}
use Rattle.jsonpath_nodes.specs.place.Mark.{shown}
use Rattle.jsonpath_select.proofs.tagged.shared_lists.copied_marks.Given as goal

abbrev pub invariant-loop-mark : goal.invariant-loop-mark
invariant-loop-mark g l = map (shown g.M.Mark.stand g.M.Mark.content) l.found.items ≡ map (shown g.M.Mark.stand g.M.Mark.content) (take l.mark-index l.marks)
