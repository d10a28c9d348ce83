use Rattle.std.proofs.Common.{◌≡◌, ℕ, List, drop, ap, ◌∙◌, decimal}
use Rattle.std.proofs.lemmas.Fmt.{parse-decimal}
use Rattle.std.specs.Result.{result_ok}
use Rattle.jsonpath_select.proofs.error.number_in_message.Goals as goal

pub returns-clause-some : goal.returns-clause-some
returns-clause-some c = λ at small message.
    let digits : c.in_ok-strip_prefix.field-0.now ≡ decimal at =
    c.in_ok-strip_prefix.ensures.cases.2 ∙ ap (λ (n : ℕ). drop n c.args.message.now) c.in_ok-strip_prefix.ensures.cases.1.0 ∙ ap (λ (xs : List ℕ). drop 9 xs) message in
    c.ok.ensures.value ∙ ap result_ok (parse-decimal 64 at c.in_ok-strip_prefix.field-0.now c.parse.result small small digits c.parse.ensures.value.0)
