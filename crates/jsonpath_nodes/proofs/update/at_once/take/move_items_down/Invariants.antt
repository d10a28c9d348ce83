use Rattle.std.proofs.Common.{◌≡◌, ◌+◌, ◌-◌, ◌++◌, take, drop, length}
use Rattle.std.specs.Prelude.{slice_range}
use Rattle.jsonpath_nodes.proofs.update.at_once.take.move_items_down.Given as goal

abbrev pub invariant-loop-i : goal.invariant-loop-i
invariant-loop-i l = record {
  count : l.end ≡ l.fn.kept + (l.i - l.fn.next);
  len : length l.list.items ≡ length l.initial.list.items;
  moved : take l.end l.list.items ≡ take l.fn.kept l.initial.list.items ++ slice_range l.initial.list.items l.fn.next l.i;
  rest : drop l.i l.list.items ≡ drop l.i l.initial.list.items;
}
