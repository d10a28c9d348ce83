use Rattle.std.proofs.Common.{◌≡◌, take, map}
use Rattle.json.specs.Value.{value_view}
use Rattle.jpath_texts.specs.NamesOnce.{names_once}
use Rattle.jpath_texts.proofs.OnceLemmas.{member_view, once_member}
use Rattle.jpath_texts.proofs.output.names_once.+repeats.Given as goal

abbrev pub invariant-may_repeat_in_items-loop-item : goal.invariant-may_repeat_in_items-loop-item
invariant-may_repeat_in_items-loop-item l = map (λ x. names_once (value_view x)) (take l.item-index l.item-items) ≡ map value_view (take l.item-index l.item-items)

abbrev pub invariant-may_repeat_in_members-loop-member : goal.invariant-may_repeat_in_members-loop-member
invariant-may_repeat_in_members-loop-member l = map once_member (take l.member-index l.member-items) ≡ map member_view (take l.member-index l.member-items)
