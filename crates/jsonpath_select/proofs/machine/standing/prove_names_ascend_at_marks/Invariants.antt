use Rattle.std.proofs.Common.{take}
use Rattle.std.specs.List.{AllByRecursion}
use Rattle.jsonpath_nodes.specs.step.Separate.{HasNamesInOrder}
use Rattle.jsonpath_select.proofs.machine.standing.prove_names_ascend_at_marks.Given as goal

abbrev pub invariant-loop-mark : goal.invariant-loop-mark
invariant-loop-mark g l = AllByRecursion (λ m. HasNamesInOrder (g.M.Mark.content m)) (take l.mark-index l.marks)
