use Rattle.std.proofs.Common.{◌≡◌, length, map, sum, take}
use Rattle.jsonpath_nodes.specs.place.SpotPlace.{place_location, step_of}
use Rattle.jsonpath_lib.specs.StepLists.{cut}
use Rattle.jsonpath_lib.proofs.step_lists.steps_to_each.Given as goal

abbrev pub invariant-loop-node : goal.invariant-loop-node
invariant-loop-node g l = record {
  lists : cut l.counts.items (map step_of l.steps.items) ≡ map (place_location g.T.Name.Name.bytes) (take l.node-index l.nodes);
  whole : sum l.counts.items ≡ length l.steps.items;
}
