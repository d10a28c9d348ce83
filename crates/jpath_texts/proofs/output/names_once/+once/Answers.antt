use Rattle.std.proofs.Common.{map, ap, ◌∙◌}
use Rattle.std.proofs.lemmas.List.{take_all}
use Rattle.json.specs.Value.{value_view, items_of, items_view, members_of, members_view}
use Rattle.jpath_texts.specs.NamesOnce.{names_once, items_once, members_once}
use Rattle.jpath_texts.proofs.OnceLemmas.{once_member, items_made, members_made}
use Rattle.jpath_texts.proofs.output.names_once.+once.Goals as goal

pub items_with_names_once-returns : goal.items_with_names_once-returns
items_with_names_once-returns t c =
    let xs = c.deref-item-items.result.now in
    ap items_of (c.loop-item.invariant ∙ ap (map (λ x. names_once (value_view x))) (take_all c.loop-item.item-index xs c.loop-item-test.false)) ∙ items_made xs
    ∙ ap (λ ys. items_once (items_view ys)) c.deref-item-items.ensures.value

pub members_with_names_once_in_values-returns : goal.members_with_names_once_in_values-returns
members_with_names_once_in_values-returns t c =
    let xs = c.deref-member-items.result.now in
    ap members_of (c.loop-member.invariant ∙ ap (map once_member) (take_all c.loop-member.member-index xs c.loop-member-test.false)) ∙ members_made xs
    ∙ ap (λ ys. members_once (members_view ys)) c.deref-member-items.ensures.value
