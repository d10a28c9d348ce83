use Rattle.std.proofs.Common.{◌≡◌, drop}
use Rattle.serde_json.specs.View.{view, items_view, members_view}
use Rattle.serde_json.specs.Written.{has_float, items_have_float, members_have_float}
use Rattle.jsonpath_select.proofs.answer.unread_number.+has_unread_number.Given as goal

abbrev pub invariant-loop-item : goal.invariant-loop-item
invariant-loop-item l = has_float (view l.value) ≡ items_have_float (items_view (drop l.item-index l.item-items))

abbrev pub invariant-loop-key : goal.invariant-loop-key
invariant-loop-key l = has_float (view l.value) ≡ members_have_float (members_view l._key-iterator)
