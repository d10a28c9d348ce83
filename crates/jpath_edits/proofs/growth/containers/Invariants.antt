use Rattle.std.proofs.Common.{◌≡◌, map, take}
use Rattle.jsonpath_nodes.specs.place.Owned.{owned_steps}
use Rattle.jpath_edits.specs.Grown.{container_of}
use Rattle.jpath_edits.proofs.growth.containers.Given as goal

abbrev pub invariant-loop-location : goal.invariant-loop-location
invariant-loop-location l = map (λ c. owned_steps c.now) l.found.items ≡ map (λ t. container_of l.growth t.now) (take l.location-index l.location-items)
