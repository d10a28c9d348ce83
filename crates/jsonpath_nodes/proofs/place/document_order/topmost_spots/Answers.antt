use Rattle.std.proofs.Common.{arith}
use Rattle.jsonpath_nodes.specs.plan.OrderedSpots.{last_location}
use Rattle.jsonpath_nodes.proofs.place.OrderedSpotLemmas.{topmost_next, topmost_done}
use Rattle.jsonpath_nodes.proofs.place.document_order.topmost_spots.Goals as goal

pub loop-spot-preserved : goal.loop-spot-preserved
loop-spot-preserved g c = λ doc ls stand.
    topmost_next g.T.Name.Name.bytes g.T.Tree.content doc ls c.args.spots.now c.loop-spot.kept.items c.push_if_topmost.new.kept.items c.loop-spot.spot-index c.spot-item.result (last_location g.T.Name.Name.bytes c.loop-spot.last) (last_location g.T.Name.Name.bytes c.push_if_topmost.new.last)
    stand (omega arith) c.spot-item.is c.in_ok-push_if_topmost.ensures.last c.in_ok-push_if_topmost.ensures.kept (c.loop-spot.invariant doc ls stand)

pub returns : goal.returns
returns g c = λ doc ls stand.
    topmost_done g.T.Name.Name.bytes g.T.Tree.content doc ls c.args.spots.now c.loop-spot.kept.items c.loop-spot.spot-index (last_location g.T.Name.Name.bytes c.loop-spot.last) stand (omega arith) (c.loop-spot.invariant doc ls stand)
