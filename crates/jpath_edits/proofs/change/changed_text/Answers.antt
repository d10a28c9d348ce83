use Rattle.std.proofs.Common.{List, subst}
use Rattle.json.specs.Value.{value_view}
use Rattle.jpath_edits.specs.Changed.{IsSplicedAt}
use Rattle.jpath_edits.specs.declared.parts.part.Part.{Part}
use Rattle.jpath_edits.proofs.TargetLemmas.{changed_at}
use Rattle.jpath_edits.proofs.change.changed_text.Goals as goal

pub returns : goal.returns
returns c =
    let bytes = c.as_bytes.result.now in
    let written = c.in-Some.written.items in
    let spliced : IsSplicedAt c.as_slice.result.now c.replacement_bytes.result.now bytes written = rw c.in-Some.is at c.in_ok-written.ensures in
    changed_at c.args.change (value_view c.args.root.value.now) c.args.places.now c.locations_below_root-targets.result.now c.in_ok-parts.parts.items c.replacement_bytes.result.now bytes c.args.text.now written
    c.replacement_bytes.ensures c.as_bytes.ensures.value c.locations_below_root-targets.ensures (subst (λ (parts : List Part). IsSplicedAt parts c.replacement_bytes.result.now bytes written) c.as_slice.ensures.value spliced)
    (c.in_ok-are_parts_at_targets.ensures c.if-not-branch.false)
