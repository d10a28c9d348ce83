use Rattle.jsonpath_nodes.proofs.place.OrderedSpotLemmas.{order_stands, order_kept}
use Rattle.jsonpath_nodes.proofs.place.document_order.in_document_order.Goals as goal

pub returns-then-branch : goal.returns-then-branch
returns-then-branch g c = λ doc ls stand. order_kept g.T.Name.Name.bytes g.T.Tree.content doc ls c.args.spots.now c.in_ok-same.same.items stand c.in_ok-same.ensures (c.in_ok-are_ordered_without_repeats.ensures c.if-branch.true)

pub returns : goal.returns
returns g c = λ doc ls stand.
    order_stands g.T.Name.Name.bytes g.T.Tree.content doc ls c.args.spots.now c.in_ok-placed.placed.keys c.in_ok-found.found.items stand c.in_ok-found.ensures c.in_ok-placed.ensures.order (c.in_ok-placed.ensures.shown doc ls stand)
