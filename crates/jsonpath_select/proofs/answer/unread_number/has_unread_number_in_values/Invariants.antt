use Rattle.std.proofs.Common.{◌≡◌, drop, map}
use Rattle.serde_json.specs.View.{view}
use Rattle.jsonpath_select.specs.answer.AnswerText.{holds_unread}
use Rattle.jsonpath_select.proofs.answer.unread_number.has_unread_number_in_values.Given as goal

abbrev pub invariant-loop-value : goal.invariant-loop-value
invariant-loop-value l = holds_unread (map (λ v. view v.now) l.values) ≡ holds_unread (map (λ v. view v.now) (drop l.value-index l.values))
