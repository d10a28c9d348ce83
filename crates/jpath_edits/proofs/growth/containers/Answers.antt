use Rattle.std.proofs.Common.{map, ap, ◌∙◌, take_all}
use Rattle.jpath_edits.specs.Grown.{container_of}
use Rattle.jpath_edits.proofs.GrowthLemmas.{containers_mapped}
use Rattle.jpath_edits.proofs.growth.containers.Goals as goal

pub returns : goal.returns
returns c =
    let f = container_of c.args.growth.now in
    let tops = c.as_slice-location-items.result.now in
    c.loop-location.invariant ∙ ap (map (λ l. f l.now)) (take_all c.loop-location.location-index tops c.loop-location-test.false) ∙ containers_mapped f tops
    ∙ ap (map f) (ap (map (λ l. l.now)) c.as_slice-location-items.ensures.value ∙ c.in_ok-tops.ensures)
