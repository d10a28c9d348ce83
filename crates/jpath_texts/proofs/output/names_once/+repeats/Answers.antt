use Rattle.std.proofs.Common.{◌≡◌, map, ap, sym, subst, ◌∙◌}
use Rattle.std.proofs.lemmas.List.{take_all}
use Rattle.json.specs.Value.{value_view, items_of, items_view, members_of, members_view}
use Rattle.jpath_texts.specs.NamesOnce.{names_once, items_once, members_once, each_name_once}
use Rattle.jpath_texts.proofs.OnceLemmas.{member_view, once_member, items_made, members_made}
use Rattle.jpath_texts.proofs.output.names_once.+repeats.Goals as goal

pub may_repeat_in_items-returns : goal.may_repeat_in_items-returns
may_repeat_in_items-returns t c = λ no.
    let l = c.loop-item in
    let xs = c.deref-item-items.result.now in
    let same = subst (λ ys. map (λ x. names_once (value_view x)) ys ≡ map value_view ys) (take_all l.item-index xs c.loop-item-test.false) l.invariant in
    subst (λ ys. items_once (items_view ys) ≡ items_view ys) c.deref-item-items.ensures.value (sym (items_made xs) ∙ ap items_of same)

pub may_repeat_in_members-returns-else-len-gt-FEW : goal.may_repeat_in_members-returns-else-len-gt-FEW
may_repeat_in_members-returns-else-len-gt-FEW t c = λ no.
    let l = c.loop-member in
    let xs = c.deref-member-items.result.now in
    let ys = c.args.members.now.items in
    let same = subst (λ zs. map once_member zs ≡ map member_view zs) (take_all l.member-index xs c.loop-member-test.false) l.invariant in
    let once_each : members_once (members_view ys) ≡ members_view ys =
    subst (λ zs. members_once (members_view zs) ≡ members_view zs) c.deref-member-items.ensures.value (sym (members_made xs) ∙ ap members_of same) in
    ap each_name_once once_each ∙ subst (λ zs. each_name_once (members_view zs) ≡ members_view zs) c.as_slice.ensures.value (c.has_name_twice.ensures no)
