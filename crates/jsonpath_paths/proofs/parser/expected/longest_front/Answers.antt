use Rattle.std.proofs.Common.{◌≡◌, ◌-◌, [], true, length, take, rules, sym, subst, ap, ◌∙◌}
use Rattle.std.specs.Prelude.{IsTrue, is_none, option_map, unwrap_or}
use Rattle.jsonpath_paths.specs.Expectations.{IsLongestFront}
use Rattle.jsonpath_paths.specs.text.TextPlace.{ahead}
use Rattle.jsonpath_paths.specs.plan.Wants.{stop, whole_wants}
use Rattle.jsonpath_paths.proofs.parser.ExpectedFrontLemmas.{front_left, a_path, no_path}
use Rattle.jsonpath_paths.proofs.parser.RefusedAtLemmas.{all_tokens}
use Rattle.jsonpath_paths.proofs.parser.expected.longest_front.Goals as goal
use Rattle.jsonpath_paths.proofs.parser.expected.longest_front.Goals.{else-is_none-via-then-is_none+else-is_at_end, else-is_none-via-else-is_none}

pub returns-then-is_at_end-clause-none : goal.returns-then-is_at_end-clause-none
returns-then-is_at_end-clause-none c =
    let text = c.args.text.now in
    let ts = c.in_ok-found.found.items in
    let left : c.in_ok-left.left ≡ option_map length (stop text whole_wants ts) = search rules in
    let none : is_none c.in_ok-left.left ≡ true = search rules in
    let end : ahead c.in_ok-found.behind ≡ [] = search rules in
    a_path text ts _ (all_tokens text ts c.in_ok-found.ensures.lexemes) (c.in_ok-found.ensures.rest ∙ end) (subst (λ o. is_none o ≡ true) left none)

pub returns-clause-some : goal.returns-clause-some
returns-clause-some c =
    let text = c.args.text.now in
    let ts = c.in_ok-found.found.items in
    let left : c.in_ok-left.left ≡ option_map length (stop text whole_wants ts) = search rules in
    no_path text ts _ (all_tokens text ts c.in_ok-found.ensures.lexemes) (λ none whole.
    let none_left : is_none c.in_ok-left.left ≡ true = subst (λ o. is_none o ≡ true) (sym left) none in
    let end : ahead c.in_ok-found.behind ≡ [] = sym c.in_ok-found.ensures.rest ∙ whole in
    elim c.else-is_none.branch [
      | else-is_none-via-then-is_none+else-is_at_end w ↦ (let at_end : IsTrue w.is_at_end.result = w.is_at_end.ensures.1 end in search rules)
      | else-is_none-via-else-is_none w ↦ search rules
    ])

pub returns-clause-front : goal.returns-clause-front
returns-clause-front c =
    let text = c.args.text.now in
    let ts = c.in_ok-found.found.items in
    let left : c.in_ok-left.left ≡ option_map length (stop text whole_wants ts) = search rules in
    let kept : c.truncate.new.self.items ≡ take (length ts - unwrap_or c.in_ok-left.left 0) ts = search rules in
    subst (IsLongestFront text) (sym (kept ∙ ap (λ o. take (length ts - unwrap_or o 0) ts) left)) (front_left text ts _ c.utf8.text (all_tokens text ts c.in_ok-found.ensures.lexemes))
