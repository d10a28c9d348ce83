use Rattle.std.proofs.Common.{◌≡◌, ◌++◌, map, drop}
use Rattle.jsonpath_nodes.specs.place.Location.{flat}
use Rattle.jsonpath_nodes.specs.place.Mark.{shown, seen_from_each}
use Rattle.jsonpath_nodes.proofs.steps_on_marks.flattened_from_each.Given as goal

abbrev pub invariant-loop-mark : goal.invariant-loop-mark
invariant-loop-mark g l =
    map (shown g.M.Mark.stand g.M.Mark.content) l.found.items ++ seen_from_each g.M.Mark.located g.M.Mark.stand g.M.Mark.content flat (drop l.mark-index l.marks)
    ≡ seen_from_each g.M.Mark.located g.M.Mark.stand g.M.Mark.content flat l.marks
