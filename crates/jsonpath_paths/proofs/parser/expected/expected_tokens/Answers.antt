use Rattle.std.proofs.Common.{◌≡◌, Some, length, rules, sym, subst}
use Rattle.std.specs.Prelude.{is_none, option_map}
use Rattle.jsonpath_paths.specs.Expectations.{IsLongestFront, AreExpected}
use Rattle.jsonpath_paths.specs.plan.Wants.{run, signs, stop, whole_wants}
use Rattle.jsonpath_paths.proofs.parser.ExpectedFrontLemmas.{are_expected}
use Rattle.jsonpath_paths.proofs.parser.expected.expected_tokens.Goals as goal

pub returns-clause-expected : goal.returns-clause-expected
returns-clause-expected c =
    let text = c.args.text.now in
    let front = c.in-Some.front.items in
    let left = c.in_ok-tokens_left.field-0 in
    let longest : IsLongestFront text front = search rules in
    let ended : left ≡ option_map length (stop text whole_wants front) = search rules in
    let same : is_none left ≡ c.is_none-end.result = search rules in
    subst (AreExpected text c.in_ok-tokens.tokens.items) same
    (are_expected text front c.in_ok-tokens.tokens.items left c.utf8.text longest
    (λ us ran. c.in_ok-tokens.ensures us (subst (λ ts. run whole_wants (signs text ts) ≡ Some us) (sym c.as_slice.ensures.value) ran)) ended)
