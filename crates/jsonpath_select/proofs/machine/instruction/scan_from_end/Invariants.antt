use Rattle.std.proofs.Common.{◌≡◌, ◌-◌, length, drop}
use Rattle.jsonpath_select.specs.plan.Code.{scan}
use Rattle.jsonpath_select.specs.plan.Ordered.{scan_of}
use Rattle.jsonpath_select.proofs.machine.instruction.scan_from_end.Given as goal

abbrev pub invariant-loop-i : goal.invariant-loop-i
invariant-loop-i l = (l.len ≡ length l.tokens) × (scan_of l.code.items l.own.items ≡ scan (drop (l.len - l.i) l.tokens))
