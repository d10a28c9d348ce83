use Rattle.std.proofs.Common.{refl, arith}
use Rattle.jsonpath_nodes.specs.place.SpotPlace.{place_location}
use Rattle.jsonpath_nodes.proofs.step.AscendingLemmas.{ascend_next}
use Rattle.jsonpath_nodes.proofs.step.candidates.are_ordered_and_disjoint.Goals as goal

pub loop-spot-preserved : goal.loop-spot-preserved
loop-spot-preserved g c =
    ascend_next (place_location g.T.Name.Name.bytes) c.args.spots.now c.loop-spot.spot-index c.spot-item.result c.loop-spot.last c.in_ok-here.here (omega arith) c.spot-item.is c.in_ok-here.ensures
    (c.if-not-is_after_and_disjoint.ensures refl) c.loop-spot.invariant
