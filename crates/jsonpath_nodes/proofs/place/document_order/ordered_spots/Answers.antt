use Rattle.std.proofs.Common.{map, ap, arith}
use Rattle.jsonpath_nodes.specs.plan.OrderedSpots.{ordered_spot_location}
use Rattle.jsonpath_nodes.proofs.place.OrderedSpotLemmas.{order_next, shown_next, order_done}
use Rattle.jsonpath_nodes.proofs.place.document_order.ordered_spots.Goals as goal

pub loop-spot-init : goal.loop-spot-init
loop-spot-init g c = record {
  order = ap (map (ordered_spot_location g.T.Name.Name.bytes)) c.new-placed.ensures.empty;
  shown = λ doc ls stand. rw c.new-placed.ensures.empty tt;
}

pub loop-spot-preserved : goal.loop-spot-preserved
loop-spot-preserved g c =
    let inv = c.loop-spot.invariant in
    let i = c.loop-spot.spot-index in
    let s = c.spot-item.result in
    let p = c.in_ok-of_spot.field-0 in
    let made = c.in_ok-of_spot.ensures in
    let more = c.in_ok-insert.ensures.keys in
    record {
      order = order_next g.T.Name.Name.bytes g.T.Tree.content c.args.spots.now i s p c.loop-spot.placed.keys c.insert.new.self.keys (omega arith) c.spot-item.is made.location more inv.order;
      shown = λ doc ls stand. shown_next g.T.Name.Name.bytes g.T.Tree.content doc ls c.args.spots.now i s p c.loop-spot.placed.keys c.insert.new.self.keys stand (omega arith) c.spot-item.is made.location made.sight more (inv.shown doc ls stand);
    }

pub returns-clause-order : goal.returns-clause-order
returns-clause-order g c = order_done g.T.Name.Name.bytes g.T.Tree.content c.args.spots.now c.loop-spot.spot-index c.loop-spot.placed.keys (omega arith) c.loop-spot.invariant.order
