use Rattle.std.proofs.Common.{◌≡◌, false, sym, ap, ◌∙◌}
use Rattle.json.specs.Value.{members_view}
use Rattle.jpath_edits.specs.Grown.{each_renamed, has_name}
use Rattle.jpath_edits.proofs.GrowthLemmas.{name_any, not_true, renamed_back, renamed_when}
use Rattle.jpath_edits.proofs.growth.take_back.take_back_name.Goals as goal

pub returns : goal.returns
returns c = λ right.
    let old = c.args.old.now in
    let new = c.args.new.now in
    let before = members_view c.args.members.now.items in
    let after = members_view c.in_ok-members.field-0.items in
    let none_old : has_name old before ≡ false = ap (λ xs. has_name old (members_view xs)) (sym c.as_slice.ensures.value) ∙ sym (name_any old c.as_slice.result.now) ∙ sym c.is_name_of_any.ensures ∙ c.if-is_name_of_any.false in
    let none_new : has_name new after ≡ false =
    ap (λ xs. has_name new (members_view xs)) (sym c.as_slice-2.ensures.value) ∙ sym (name_any new c.as_slice-2.result.now) ∙ sym c.is_name_of_any-2.ensures ∙ not_true c.is_name_of_any-2.result right in
    let made : after ≡ each_renamed new old before = c.in_ok-members.ensures ∙ ap (λ v. each_renamed new old (members_view v.items)) c.replace-before.ensures.value in
    renamed_back old new before none_old ∙ ap (each_renamed old new) (sym made) ∙ renamed_when old new after none_new
