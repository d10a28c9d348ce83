use Rattle.std.proofs.Common.{◌≡◌, ◌++◌, map, drop}
use Rattle.jsonpath_nodes.specs.place.Mark.{shown, seen_from_each}
use Rattle.jsonpath_nodes.specs.step.PlainSteps.{plain_step_of}
use Rattle.jsonpath_nodes.specs.step.Steps.{deep}
use Rattle.jsonpath_nodes.proofs.steps_on_marks.plain_step_from_all_below.Given as goal

abbrev pub invariant-loop-mark : goal.invariant-loop-mark
invariant-loop-mark g l =
    map (shown g.M.Mark.stand g.M.Mark.content) l.found.items ++ seen_from_each g.M.Mark.located g.M.Mark.stand g.M.Mark.content (deep (plain_step_of l.plain)) (drop l.mark-index l.marks)
    ≡ seen_from_each g.M.Mark.located g.M.Mark.stand g.M.Mark.content (deep (plain_step_of l.plain)) l.marks
