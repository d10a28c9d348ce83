use Rattle.std.proofs.Common.{Some, map, sym, ap, ◌∙◌}
use Rattle.json.specs.Value.{value_view}
use Rattle.jsonpath_nodes.specs.place.Owned.{owned_steps}
use Rattle.jpath_edits.specs.Grown.{grown_all, IsFilledAt}
use Rattle.jpath_edits.proofs.GrowthLemmas.{grown_at}
use Rattle.jpath_edits.proofs.growth.grown_text.Goals as goal

pub returns : goal.returns
returns c =
    let written = c.in-Some.bytes.items in
    let filled : IsFilledAt c.as_slice-2.result.now c.as_bytes.result.now written = rw c.in-Some.is at c.in_ok-bytes.ensures in
    grown_at c.args.growth.now (value_view c.args.root.value.now) c.args.places.now c.as_slice-2.result.now c.as_slice-3.result.now c.as_bytes.result.now c.args.text.now written c.as_slice-else-not-branch.result.now
    (map (λ l. owned_steps l.now) c.as_slice-else-not-branch-2.result.now) c.as_bytes.ensures.value (c.as_slice-3.ensures.value ∙ sym c.as_slice-2.ensures.value) c.as_slice-else-not-branch.ensures.value
    filled (c.in_ok-are_seams_of.ensures c.if-not-branch.false) (c.in_ok-is_grown.ensures c.if-not-branch-2.false ∙ ap (λ v. Some (grown_all c.args.growth.now (map (λ l. owned_steps l.now) c.as_slice-else-not-branch-2.result.now) (value_view v))) c.value.ensures)
    (ap (map (λ l. owned_steps l.now)) c.as_slice-else-not-branch-2.ensures.value ∙ c.in_ok-containers.ensures)
