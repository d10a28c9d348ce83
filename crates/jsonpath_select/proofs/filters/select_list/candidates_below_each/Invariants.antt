use Rattle.std.proofs.Common.{take}
use Rattle.jsonpath_nodes.specs.place.Mark.{MarksLeadBy}
use Rattle.jsonpath_nodes.specs.step.Candidates.{candidates_below}
use Rattle.jsonpath_nodes.specs.step.Steps.{from_each}
use Rattle.jsonpath_select.proofs.filters.select_list.candidates_below_each.Given as goal

-- what the marks so far lead to
abbrev pub invariant-loop-mark : goal.invariant-loop-mark
invariant-loop-mark g l = MarksLeadBy g.M.Mark.located g.M.Mark.stand g.M.Mark.content (λ doc ls. from_each doc candidates_below (take l.mark-index ls)) l.marks l.found.items
