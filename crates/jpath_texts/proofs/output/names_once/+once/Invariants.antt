use Rattle.std.proofs.Common.{◌≡◌, take, map}
use Rattle.json.specs.Value.{value_view}
use Rattle.jpath_texts.specs.NamesOnce.{names_once}
use Rattle.jpath_texts.proofs.OnceLemmas.{member_view, once_member}
use Rattle.jpath_texts.proofs.output.names_once.+once.Given as goal

abbrev pub invariant-items_with_names_once-loop-item : goal.invariant-items_with_names_once-loop-item
invariant-items_with_names_once-loop-item l = map value_view l.made.items ≡ map (λ x. names_once (value_view x)) (take l.item-index l.item-items)

abbrev pub invariant-members_with_names_once_in_values-loop-member : goal.invariant-members_with_names_once_in_values-loop-member
invariant-members_with_names_once_in_values-loop-member l = map member_view l.made.items ≡ map once_member (take l.member-index l.member-items)
