use Rattle.std.proofs.Common.{◌≡◌, ◌++◌, ◌∷◌, [], drop, map, false, string_bytes}
use Rattle.serde_json.specs.View.{view}
use Rattle.serde_json.specs.Written.{compact_text}
use Rattle.jsonpath_select.specs.answer.AnswerText.{bracketed, holds_unread}
use Rattle.jsonpath_select.proofs.answer.JoinedLemmas.{joined_after}
use Rattle.jsonpath_select.proofs.answer.text.compact_list_text.Given as goal

abbrev pub invariant-loop-value : goal.invariant-loop-value
invariant-loop-value l = record {
  written : bracketed (map (λ v. view v.now) l.values) ≡ string_bytes l.text ++ (joined_after l.later (map compact_text (map (λ v. view v.now) (drop l.value-index l.values))) ++ 93 ∷ []);
  whole : holds_unread (map (λ v. view v.now) (drop l.value-index l.values)) ≡ false;
}
