use Rattle.std.proofs.Common.{◌≡◌, ◌+◌, [], ◌∷◌, ◌++◌, map, sym, ap, subst, take, ◌∙◌}
use Rattle.std.proofs.lemmas.List.{map-append, take_more}
use Rattle.json.specs.Value.{value_view}
use Rattle.jpath_core.specs.Rows.{AreFields, no_fields}
use Rattle.jpath_core.proofs.RowLemmas.{fields_more}
use Rattle.jpath_core.proofs.output.table.row_fields.Goals as goal

pub loop-column-init : goal.loop-column-init
loop-column-init c = subst (AreFields (value_view c.args.value.value.now) []) (sym (ap (map (λ f. f.items)) c.new-fields.ensures.items)) no_fields

pub loop-column-preserved : goal.loop-column-preserved
loop-column-preserved c =
    let l = c.loop-column in
    let exact = value_view c.args.value.value.now in
    let columns = c.args.columns.now in
    let field = c.in_ok-field_of_column.field-0 in
    let old = map (λ f. f.items) l.fields.items in
    let pushed = ap (map (λ f. f.items)) c.in_ok-push.ensures.items ∙ map-append (λ f. f.items) l.fields.items (field ∷ []) in
    let column = c.column-item.result in
    let taken : take (l.column-index + 1) columns ≡ take l.column-index columns ++ column ∷ [] = take_more columns l.column-index column c.loop-column-test.true ∙ ap (λ x. take l.column-index columns ++ x ∷ []) (sym c.column-item.is) in
    let more = fields_more exact (take l.column-index columns) old column field.items l.invariant c.in_ok-field_of_column.ensures in
    subst (AreFields exact (take (l.column-index + 1) columns)) (sym pushed) (subst (λ cs. AreFields exact cs (old ++ field.items ∷ [])) (sym taken) more)
