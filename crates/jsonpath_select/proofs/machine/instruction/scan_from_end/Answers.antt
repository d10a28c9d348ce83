use Rattle.std.proofs.Common.{refl}
use Rattle.jsonpath_select.specs.plan.Ordered.{scan_of}
use Rattle.jsonpath_select.proofs.machine.ScanningLemmas.{scan_next}
use Rattle.jsonpath_select.proofs.machine.instruction.scan_from_end.Goals as goal

pub loop-i-preserved : goal.loop-i-preserved
loop-i-preserved c =
    (refl, scan_next c.args.tokens.now c.loop-i.i c.index-tokens-len.result (scan_of c.loop-i.code.items c.loop-i.own.items) (scan_of c.scan_token.new.code.items c.scan_token.new.own.items) c.loop-i-test.true c.index-tokens-len.is c.loop-i.invariant.1 c.in_ok-scan_token.ensures)
