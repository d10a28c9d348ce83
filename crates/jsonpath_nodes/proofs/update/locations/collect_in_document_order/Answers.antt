use Rattle.std.proofs.Common.{◌++◌, ◌∷◌, [], map, take, ap, ◌∙◌, sym, append_assoc}
use Rattle.std.specs.BTreeSet.{insert_key}
use Rattle.jsonpath_nodes.specs.place.Location.{location_cmp}
use Rattle.jsonpath_nodes.specs.place.Order.{once_in_order}
use Rattle.jsonpath_nodes.specs.place.SpotPlace.{place_location}
use Rattle.jsonpath_nodes.proofs.step.InOrderLemmas.{taken_more, once_more}
use Rattle.jsonpath_nodes.proofs.update.locations.collect_in_document_order.Goals as goal

pub loop-spot-preserved : goal.loop-spot-preserved
loop-spot-preserved g c =
    let at = place_location g.T.Name.Name.bytes in
    let found = c.args.found.items in
    let spots = c.args.spots.now in
    let i = c.loop-spot.spot-index in
    let m = c.in_ok-location.field-0 in
    c.in_ok-insert-2.ensures.keys ∙ ap (λ ks. insert_key location_cmp ks m) c.loop-spot.invariant ∙ once_more (found ++ map at (take i spots)) m
    ∙ ap once_in_order (append_assoc found (map at (take i spots)) (m ∷ []) ∙ ap (λ ls. found ++ ls) (sym (taken_more at spots i c.spot-item.result m c.loop-spot-test.true c.spot-item.is c.in_ok-location.ensures)))
