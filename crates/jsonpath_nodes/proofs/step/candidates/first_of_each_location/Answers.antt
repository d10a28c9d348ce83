use Rattle.std.proofs.Common.{◌≡◌, not, ap, ◌∙◌}
use Rattle.std.specs.List.{list_any}
use Rattle.jsonpath_nodes.specs.place.Location.{Location, is_same}
use Rattle.jsonpath_nodes.specs.place.SpotPlace.{place_location}
use Rattle.jsonpath_nodes.proofs.step.FirstLemmas.{firsts_next, held_next, nothing_yet, held_nothing, places}
use Rattle.jsonpath_nodes.proofs.step.candidates.first_of_each_location.Goals as goal

pub loop-spot-init : goal.loop-spot-init
loop-spot-init g c = record {
  stand = λ doc ls h. nothing_yet g.T.Name.Name.bytes g.T.Tree.content doc ls c.new-kept.result.items c.new-kept.ensures.items h;
  held = held_nothing g.T.Name.Name.bytes g.T.Tree.content c.new-seen.result c.new-kept.result.items c.new-seen.ensures.empty c.new-kept.ensures.items;
}

pub loop-spot-preserved : goal.loop-spot-preserved
loop-spot-preserved g c =
    let s = c.in-Some.spot in
    let k = c.in_ok-location.field-0 in
    let kept = c.loop-spot.kept.items in
    let here : k ≡ place_location g.T.Name.Name.bytes s = c.in_ok-location.ensures in
    let test : c.in_ok-is_new.is_new ≡ not (list_any (is_same (place_location g.T.Name.Name.bytes s)) (places g.T.Name.Name.bytes g.T.Tree.content kept)) =
    c.in_ok-is_new.ensures.added ∙ ap not (c.loop-spot.invariant.held k ∙ ap (λ (m : Location). list_any (is_same m) (places g.T.Name.Name.bytes g.T.Tree.content kept)) here) in
    record {
      stand = firsts_next g.T.Name.Name.bytes g.T.Tree.content s c.in_ok-is_new.is_new c.loop-spot.yielded kept c.push_if_new.new.kept.items c.loop-spot.invariant.stand test c.in_ok-push_if_new.ensures;
      held = held_next g.T.Name.Name.bytes g.T.Tree.content s k c.in_ok-is_new.is_new c.loop-spot.seen c.insert.new.self kept c.push_if_new.new.kept.items here c.loop-spot.invariant.held c.in_ok-is_new.ensures.updates.0 c.in_ok-is_new.ensures.unchanged c.in_ok-push_if_new.ensures;
    }
