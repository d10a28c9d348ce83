use Rattle.std.proofs.Common.{◌≡◌, ◌≤◌, List, length, drop}
use Rattle.jsonpath_nodes.specs.document.Document.{Document}
use Rattle.jsonpath_select.specs.plan.Machine.{Tagged}
use Rattle.jsonpath_select.specs.plan.Shown.{ArePairs}
use Rattle.jsonpath_select.proofs.tagged.KeptLemmas.{KeptSoFar}
use Rattle.jsonpath_select.proofs.tagged.kept_marks.keep_marks_at_indexes.Given as goal

abbrev pub invariant-loop-number : goal.invariant-loop-number
invariant-loop-number g l = record {
  left : l.number-iterator.iter.rest.items ≡ drop l.number-iterator.count l.fn.pairs.marks.items;
  within : l.from ≤ length l.numbers;
  same : length l.tags.items ≡ length l.marks.items;
  kept : (doc : Document) (ps : List Tagged) → ArePairs g.M.Mark.located g.M.Mark.stand g.M.Mark.content doc ps l.all_tags.items l.fn.pairs.marks.items → KeptSoFar g.M.Mark.located g.M.Mark.stand g.M.Mark.content doc l.numbers ps l.number-iterator.count l.from l.tags.items l.marks.items;
}
