use Rattle.std.proofs.Common.{map, drop}
use Rattle.jsonpath_nodes.specs.plan.Ascending.{Ascend}
use Rattle.jsonpath_nodes.specs.place.SpotPlace.{place_location}
use Rattle.jsonpath_nodes.proofs.step.AscendingLemmas.{AscendAfter}
use Rattle.jsonpath_nodes.proofs.step.candidates.are_ordered_and_disjoint.Given as goal

abbrev pub invariant-loop-spot : goal.invariant-loop-spot
invariant-loop-spot g l = AscendAfter l.last (map (place_location g.T.Name.Name.bytes) (drop l.spot-index l.spots)) → Ascend (map (place_location g.T.Name.Name.bytes) l.spots)
