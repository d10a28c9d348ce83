use Rattle.std.proofs.Common.{◌≡◌, ℕ, ◌<◌, ◌++◌, List, take, length, get_or, inr, sym, ap, ap₂, ◌∙◌, subst, arith, rules}
use Rattle.std.proofs.lemmas.Result.{IfOk-weaker}
use Rattle.std.specs.Prelude.{IfOk, IfSome}
use Rattle.json_trees.specs.NumberKey.{IsPlaced}
use Rattle.json_trees.proofs.numbers.KeyLemmas.{pointed, some_weaker}
use Rattle.json_trees.proofs.numbers.number_key.key_of_numeral.Goals as goal

pub returns-in-Some : goal.returns-in-Some
returns-in-Some c =
    let p = c.args.numeral.now in
    let xs = c.deref.result.now in
    let ys = c.as_slice.result.now in
    let lead = c.leading_zeros-lead.result in
    let digits = c.without_last_zeros-digits.result.now in
    let front = c.leading_zeros-lead.ensures in
    let same : ys ≡ xs = c.as_slice.ensures.value ∙ sym c.deref.ensures.value in
    let items : xs ≡ p.whole ++ p.fraction =
    c.deref.ensures.value ∙ c.in_ok-extend_from_slice.ensures.items ∙ ap₂ (λ (us vs : List ℕ). us ++ vs) (c.in_ok-all.ensures.items ∙ c.whole.ensures.value) c.fraction.ensures.value in
    let some : 0 < length digits = grind arith in
    let stands = pointed p xs digits lead c.in-Some.exponent items (ap (take lead) (sym same) ∙ front.zeros)
    (λ less is. front.stops (subst (λ (us : List ℕ). lead < length us) (sym same) less) (ap (λ (us : List ℕ). get_or us lead 0) same ∙ is))
    c.without_last_zeros-digits.ensures some c.in-Some.ensures in
    let placed : IfOk c.key_of_digits.result (λ o. IfSome o (IsPlaced c.args.is_negative digits c.in-Some.exponent)) = search rules in
    IfOk-weaker c.key_of_digits.result _ _ (λ o h. some_weaker o (λ key is. inr (digits, c.in-Some.exponent, stands, is)) h) placed
