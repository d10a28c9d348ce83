use Rattle.std.proofs.Common.{◌≡◌, ◌++◌, map, ap, ◌∙◌, arith}
use Rattle.std.specs.List.{list_any}
use Rattle.jsonpath_nodes.specs.place.Location.{Location, is_same}
use Rattle.jsonpath_nodes.specs.place.NumbersWhere.{numbers_where}
use Rattle.jsonpath_nodes.specs.place.Order.{once_in_order}
use Rattle.jsonpath_nodes.specs.place.SpotPlace.{place_location}
use Rattle.jsonpath_nodes.specs.plan.OrderedSpots.{ordered_spot_location}
use Rattle.jsonpath_nodes.proofs.place.OrderedSpotLemmas.{looked_up, number_next, numbers_done}
use Rattle.jsonpath_nodes.proofs.place.document_order.indexes_standing_among.Goals as goal

pub loop-number-init : goal.loop-number-init
loop-number-init g c =
    ap (λ ns. ns ++ numbers_where (λ m. list_any (is_same m) (once_in_order (map (place_location g.T.Name.Name.bytes) c.args.others.now))) 0 (map (place_location g.T.Name.Name.bytes) c.args.spots.now)) c.new-numbers.ensures.items

pub loop-number-preserved : goal.loop-number-preserved
loop-number-preserved g c =
    let others = once_in_order (map (place_location g.T.Name.Name.bytes) c.args.others.now) in
    let p = c.in_ok-placed.placed in
    let places = c.in_ok-places.places.keys in
    let passes : c.contains.result ≡ list_any (is_same (place_location g.T.Name.Name.bytes c.index-spots-number.result)) others =
    c.contains.ensures ∙ looked_up g.T.Name.Name.bytes g.T.Tree.content p places ∙ ap (list_any (is_same (ordered_spot_location g.T.Name.Name.bytes p))) c.in_ok-places.ensures.order ∙ ap (λ (l : Location). list_any (is_same l) others) c.in_ok-placed.ensures.location in
    number_next g.T.Name.Name.bytes g.T.Tree.content (λ m. list_any (is_same m) others) c.args.spots.now c.loop-number.number c.index-spots-number.result c.contains.result c.loop-number.numbers.items c.push_index_if.new.numbers.items
    (omega arith) c.index-spots-number.is passes c.in_ok-push_index_if.ensures c.loop-number.invariant

pub returns : goal.returns
returns g c =
    numbers_done g.T.Name.Name.bytes g.T.Tree.content (λ m. list_any (is_same m) (once_in_order (map (place_location g.T.Name.Name.bytes) c.args.others.now))) c.args.spots.now c.loop-number.number c.loop-number.numbers.items (omega arith) c.loop-number.invariant
