use Rattle.std.proofs.Common.{[]}
use Rattle.jsonpath_select.proofs.machine.BySetsLemmas.{by_sets_next}
use Rattle.jsonpath_select.proofs.machine.by_sets.instructions_by_sets.Goals as goal

pub loop-instruction-preserved : goal.loop-instruction-preserved
loop-instruction-preserved c = by_sets_next c.args.code.now c.loop-instruction.instruction-index c.instruction-item.result [] _ _ c.loop-instruction-test.true c.instruction-item.is c.loop-instruction.invariant c.in_ok-push_by_sets.ensures
