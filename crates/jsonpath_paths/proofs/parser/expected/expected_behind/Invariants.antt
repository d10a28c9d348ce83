use Rattle.std.proofs.Common.{◌≡◌, List, Some, take}
use Rattle.jsonpath_paths.specs.plan.Wants.{Want, run, signs, whole_wants}
use Rattle.jsonpath_paths.specs.plan.Expecting.{kinds_fed}
use Rattle.jsonpath_paths.proofs.parser.expected.expected_behind.Given as goal

abbrev pub invariant-loop-kind : goal.invariant-loop-kind
invariant-loop-kind l = (us : List Want) → run whole_wants (signs l.text l.front) ≡ Some us → l.expected.items ≡ kinds_fed us (take l.kind-index l.kind-items)
