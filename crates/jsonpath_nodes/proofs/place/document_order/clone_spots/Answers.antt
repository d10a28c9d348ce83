use Rattle.std.proofs.Common.{arith}
use Rattle.jsonpath_nodes.proofs.place.OrderedSpotLemmas.{clone_next}
use Rattle.jsonpath_nodes.proofs.place.document_order.clone_spots.Goals as goal

pub loop-spot-preserved : goal.loop-spot-preserved
loop-spot-preserved g c =
    clone_next g.T.Name.Name.bytes g.T.Tree.content c.args.spots.now c.loop-spot.same.items c.push.new.self.items c.loop-spot.spot-index c.spot-item.result c.in_ok-clone.field-0 (omega arith) c.spot-item.is c.in_ok-clone.ensures.cases c.in_ok-push.ensures.items
    c.loop-spot.invariant
