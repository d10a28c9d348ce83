use Rattle.std.proofs.Common.{rules, ◌≡◌, ◌++◌, ◌∷◌, [], map, length, arith, sym, ap, subst, ◌∙◌}
use Rattle.std.specs.List.Sorted.{IsStrictlySortedBy}
use Rattle.jsonpath_nodes.specs.place.Location.{location_cmp}
use Rattle.jsonpath_nodes.specs.place.Order.{once_in_order}
use Rattle.jsonpath_nodes.specs.place.SpotPlace.{place_location}
use Rattle.jsonpath_nodes.proofs.step.InOrderLemmas.{once_sorted, once_joined, whole_taken, sorted_none, taken_more}
use Rattle.jsonpath_nodes.proofs.place.OrderLemmas.{once_in_order-sorted}
use Rattle.jsonpath_nodes.proofs.update.locations.compute_paths.Goals as goal

pub loop-i-init : goal.loop-i-init
loop-i-init g c = record { all = search rules; ordered = subst (IsStrictlySortedBy location_cmp) (sym c.new-found.ensures.items) sorted_none }

pub returns-then-not-is_after_last_location-clause-once : goal.returns-then-not-is_after_last_location-clause-once
returns-then-not-is_after_last_location-clause-once g c = c.in_ok-paths.ensures ∙ once_joined (place_location g.T.Name.Name.bytes) c.args.spots.now c.loop-i.i c.loop-i.found.items c.loop-i.invariant.all

pub returns-then-not-is_after_last_location-clause-ordered : goal.returns-then-not-is_after_last_location-clause-ordered
returns-then-not-is_after_last_location-clause-ordered g c =
    let once = c.in_ok-paths.ensures ∙ once_joined (place_location g.T.Name.Name.bytes) c.args.spots.now c.loop-i.i c.loop-i.found.items c.loop-i.invariant.all in
    subst (IsStrictlySortedBy location_cmp) (sym once) (once_in_order-sorted (map (place_location g.T.Name.Name.bytes) c.args.spots.now))

pub returns-clause-once : goal.returns-clause-once
returns-clause-once g c =
    let end : c.loop-i.i ≡ length c.args.spots.now = omega arith in
    let all = whole_taken (place_location g.T.Name.Name.bytes) c.args.spots.now c.loop-i.i c.loop-i.found.items end c.loop-i.invariant.all in
    once_sorted c.loop-i.found.items c.loop-i.invariant.ordered ∙ ap once_in_order all

pub loop-i-preserved : goal.loop-i-preserved
loop-i-preserved g c =
    let at = place_location g.T.Name.Name.bytes in
    let m = c.in_ok-location.location in
    record {
      all = c.in_ok-push.ensures.items ∙ ap (λ ls. ls ++ m ∷ []) c.loop-i.invariant.all ∙ sym (taken_more at c.args.spots.now c.loop-i.i c.index-spots-i.result m c.loop-i-test.true c.index-spots-i.is c.in_ok-location.ensures);
      ordered = subst (IsStrictlySortedBy location_cmp) (sym c.in_ok-push.ensures.items)
          (subst (λ ls. IsStrictlySortedBy location_cmp ls → IsStrictlySortedBy location_cmp (ls ++ m ∷ [])) c.as_slice.ensures.value (c.is_after_last_location.ensures c.if-not-is_after_last_location.false) c.loop-i.invariant.ordered);
    }
