use Rattle.std.proofs.Common.{◌≡◌, arith, refl, ap, sym, ◌∙◌, true}
use Rattle.jsonpath_nodes.specs.place.SpotPlace.{place_location}
use Rattle.jsonpath_nodes.specs.plan.OrderedSpots.{comes_behind, from_top, last_location}
use Rattle.jsonpath_nodes.proofs.step.InOrderLemmas.{next_behind, sorted_none, sorted_whole}
use Rattle.jsonpath_nodes.proofs.place.document_order.are_ordered_without_repeats.Goals as goal

pub loop-spot-init : goal.loop-spot-init
loop-spot-init g c = record { ends = refl; ordered = sorted_none }

pub loop-spot-preserved : goal.loop-spot-preserved
loop-spot-preserved g c =
    let inv = c.loop-spot.invariant in
    let last = last_location g.T.Name.Name.bytes c.loop-spot.last in
    let behind : comes_behind last (from_top g.T.Name.Name.bytes c.in_ok-up.up.items) ≡ true = ap (λ up. comes_behind last (from_top g.T.Name.Name.bytes up)) (sym c.as_slice.ensures.value) ∙ (sym c.is_after_last_spot.ensures ∙ c.if-not-is_after_last_spot.false) in
    let next = next_behind (place_location g.T.Name.Name.bytes) c.args.spots.now c.loop-spot.spot-index c.spot-item.result last (from_top g.T.Name.Name.bytes c.in_ok-up.up.items)
    (omega arith) c.spot-item.is c.in_ok-up.ensures behind inv.ends inv.ordered in
    record { ends = next.1; ordered = next.0 }

pub returns : goal.returns
returns g c = λ h. sorted_whole (place_location g.T.Name.Name.bytes) c.args.spots.now c.loop-spot.spot-index (omega arith) c.loop-spot.invariant.ordered
