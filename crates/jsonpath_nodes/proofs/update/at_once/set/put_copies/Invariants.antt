use Rattle.std.proofs.Common.{◌≡◌, length, map, replicate, Some}
use Rattle.jsonpath_nodes.specs.document.Document.{Document}
use Rattle.jsonpath_nodes.specs.document.OfData.{value_document}
use Rattle.jsonpath_nodes.specs.update.Run.{update_each_back}
use Rattle.jsonpath_nodes.proofs.update.at_once.set.put_copies.Given as goal

-- there is a copy for each location that is left, and what is left to do completes it all
abbrev pub invariant-loop-location : goal.invariant-loop-location
invariant-loop-location l = (d : Document) → map value_document l.initial.unused.items ≡ replicate (length l.initial.left.items) d
    → (map value_document l.unused.items ≡ replicate (length l.left.items) d)
    × (update_each_back (Some d) (map (λ t. t.now) l.left.items) (value_document l.value) ≡ update_each_back (Some d) (map (λ t. t.now) l.initial.left.items) (value_document l.initial.value))

abbrev pub decreases-loop-location : goal.decreases-loop-location
decreases-loop-location l = length l.left.items
