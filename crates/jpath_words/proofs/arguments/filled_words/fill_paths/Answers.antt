use Rattle.std.proofs.Common.{List, subst, ◌∙◌}
use Rattle.jpath_words.specs.Arguments.{AreFilled, IsArgumentOf, IsFilledEdit, Pairwise}
use Rattle.jpath_words.specs.declared.arguments.argument.Argument.{Argument}
use Rattle.jpath_words.proofs.arguments.filled_words.fill_paths.Goals as goal

pub returns : goal.returns
returns g c =
    let list : List Argument = c.in_ok-arguments.arguments.items in
    let same = c.as_slice-arguments.ensures.value in
    let texts = c.in_ok-filled_texts.field-0.items in
    let rows = c.in_ok-filled_texts-2.field-0.items in
    let edits = c.in_ok-filled_edits.field-0.items in (
      list,
      subst (λ ws. Pairwise IsArgumentOf ws list) c.as_slice.ensures.value c.in_ok-arguments.ensures,
      record {
        paths = subst (λ ts. AreFilled list ts texts) c.in_ok-paths.ensures.paths (subst (λ x. AreFilled x c.in_ok-paths.paths.now texts) same c.in_ok-filled_texts.ensures);
        rows = subst (λ ts. AreFilled list ts rows) (c.as_slice-2.ensures.value ∙ c.in_ok-rows.ensures) (subst (λ x. AreFilled x c.as_slice-2.result.now rows) same c.in_ok-filled_texts-2.ensures);
        edits = subst (λ es. Pairwise (IsFilledEdit list) es edits) c.as_slice-3.ensures.value (subst (λ x. Pairwise (IsFilledEdit x) c.as_slice-3.result.now edits) same c.in_ok-filled_edits.ensures);
      },
    )
