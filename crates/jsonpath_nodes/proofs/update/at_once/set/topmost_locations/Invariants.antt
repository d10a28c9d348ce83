use Rattle.std.proofs.Common.{◌≡◌, ◌++◌, map, drop, Option}
use Rattle.std.specs.List.Sorted.{IsStrictlySortedBy}
use Rattle.jsonpath_nodes.specs.document.Document.{Document}
use Rattle.jsonpath_nodes.specs.place.Location.{location_cmp}
use Rattle.jsonpath_nodes.specs.update.Topmost.{with_answer_at_topmost}
use Rattle.jsonpath_nodes.proofs.update.at_once.set.topmost_locations.Given as goal

-- what is kept and what is left stand in order, and say what all the locations say
abbrev pub invariant-loop-location : goal.invariant-loop-location
invariant-loop-location l = record {
  sorted : IsStrictlySortedBy location_cmp (map (λ t. t.now) l.tops.items ++ drop l.location-index l.locations);
  same : (answer : Option Document) (d : Document) → with_answer_at_topmost answer (map (λ t. t.now) l.tops.items ++ drop l.location-index l.locations) d ≡ with_answer_at_topmost answer l.locations d;
}
