use Rattle.std.proofs.Common.{◌≡◌, ◌++◌, map, drop}
use Rattle.std.specs.Prelude.{option_map}
use Rattle.jsonpath_nodes.specs.step.SameMembers.{topmost, topmost_after}
use Rattle.jpath_edits.proofs.target_locations.topmost_locations.Given as goal

abbrev pub invariant-loop-location : goal.invariant-loop-location
invariant-loop-location l = map (λ t. t.now) l.tops.items ++ topmost_after (option_map (λ t. t.now) l.last) (drop l.location-index l.locations) ≡ topmost l.locations
