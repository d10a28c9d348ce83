use Rattle.std.proofs.Common.{◌≡◌, ◌≤◌, map, drop}
use Rattle.jsonpath_select.specs.plan.NextFilter.{behind_leave}
use Rattle.jsonpath_select.specs.plan.Ordered.{instruction_of}
use Rattle.jsonpath_select.proofs.filters.next_filter.condition_end.Given as goal

abbrev pub invariant-loop-place : goal.invariant-loop-place
invariant-loop-place l = record {
  few : l.depth ≤ l.place;
  behind : behind_leave l.depth (map instruction_of (drop l.place l.left)) ≡ behind_leave 0 (map instruction_of l.left);
}
