use Rattle.std.proofs.Common.{◌≡◌, ◌+◌, drop}
use Rattle.jsonpath_nodes.specs.plan.Groups.{beyond, group_len, leading}
use Rattle.jsonpath_nodes.specs.place.Owned.{owned_step}
use Rattle.jsonpath_nodes.proofs.update.at_once.take.group_len.Given as goal

abbrev pub invariant-loop-location : goal.invariant-loop-location
invariant-loop-location l = record {
  each : l.n ≡ l.location-index;
  count : l.n + leading (owned_step l.step) (beyond l.depth (drop l.location-index l.locations)) ≡ group_len (beyond l.depth l.locations);
}
