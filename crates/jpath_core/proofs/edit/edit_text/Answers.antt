use Rattle.std.proofs.Common.{ap, subst}
use Rattle.json.specs.Value.{value_view}
use Rattle.jpath_edits.specs.Changed.{IsChangedAt, ReadsChanged}
use Rattle.jpath_core.proofs.EditLemmas.{read_again}
use Rattle.jpath_core.proofs.edit.edit_text.Goals as goal

pub returns-clause-targets : goal.returns-clause-targets
returns-clause-targets c =
    let places = c.in_ok-places.places.items in
    let written = c.in_ok-written.written.items in
    let change = c.args.change in
    let exact = value_view c.args.document.now.exact in
    let root = ap (λ v. value_view v) c.root-root.ensures in
    record {
      locations = places;
      targets = c.in_ok-places.ensures.targets;
      changed = subst (λ ls. IsChangedAt change exact ls c.args.text.now written) c.as_slice-all.ensures.value
          (subst (λ j. IsChangedAt change j c.as_slice-all.result.now c.args.text.now written) root c.in_ok-written.ensures);
      reads = subst (λ j. ReadsChanged change places j written) root
          (read_again change c.as_slice-all.result.now places (value_view c.root-root.result.value.now) c.as_slice.result.now written c.as_slice-all.ensures.value c.as_slice.ensures.value
          (c.in_ok-are_bytes_of_changed_document.ensures c.if-not-branch.false));
    }

pub returns-clause-bytes : goal.returns-clause-bytes
returns-clause-bytes c = (returns-clause-targets c).changed.spliced
