use Rattle.std.proofs.Common.{◌≡◌, map, take}
use Rattle.jsonpath_select.specs.plan.Code.{all_by_sets}
use Rattle.jsonpath_select.specs.plan.Ordered.{instruction_of}
use Rattle.jsonpath_select.proofs.machine.by_sets.instructions_by_sets.Given as goal

abbrev pub invariant-loop-instruction : goal.invariant-loop-instruction
invariant-loop-instruction l = map instruction_of l.found.items ≡ all_by_sets (map instruction_of (take l.instruction-index l.code))
