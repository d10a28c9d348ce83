use Rattle.std.proofs.Common.{◌≡◌, map, replicate}
use Rattle.jsonpath_nodes.specs.document.OfData.{value_document}
use Rattle.jsonpath_nodes.proofs.update.at_once.set.copies_of.Given as goal

abbrev pub invariant-loop : goal.invariant-loop
invariant-loop l = map value_document l.copies.items ≡ replicate l.counter (value_document l.value)
