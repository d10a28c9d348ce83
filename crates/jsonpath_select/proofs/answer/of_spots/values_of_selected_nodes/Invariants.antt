use Rattle.std.proofs.Common.{◌≡◌, ◌++◌, map, drop}
use Rattle.jsonpath_nodes.specs.place.SpotPlace.{place_value}
use Rattle.jsonpath_select.proofs.answer.of_spots.values_of_selected_nodes.Given as goal

abbrev pub invariant-loop-node : goal.invariant-loop-node
invariant-loop-node g l = map g.T.Tree.content l.found.items ++ map (place_value g.T.Tree.content) (drop l.node-index l.nodes) ≡ map (place_value g.T.Tree.content) l.nodes
