use Rattle.std.proofs.Common.{◌≡◌, ◌<◌, ℕ, zero, suc, ◌∷◌, [], List, length, get_or, refl, subst, ap, ◌∙◌, rules, arith}
use Rattle.std.proofs.lemmas.Grind.{common_steps}
use Rattle.jsonpath_nodes.specs.document.OfData.{value_document}
use Rattle.jsonpath_select.specs.Meaning.{Selects}
use Rattle.jsonpath_uses.proofs.routes.first_route.Goals as goal

same_item : (xs : List (List ℕ)) (i : ℕ) (d e : List ℕ) → i < length xs → get_or xs i d ≡ get_or xs i e
same_item [] i d e h = absurd (omega arith)
same_item (x ∷ xs) zero d e h = refl
same_item (x ∷ xs) (suc i) d e h = same_item xs i d e (omega arith)

pub returns-then-branch-clause-found : goal.returns-then-branch-clause-found
returns-then-branch-clause-found c =
    let told = c.in_ok-exists.ensures.ok in
    let rule : c.index-rules-number.result ≡ get_or c.args.rules.now c.loop-number.number [] = c.index-rules-number.is ∙ same_item c.args.rules.now c.loop-number.number _ [] c.loop-number-test.true in (
      search rules,
      (
        told.0,
        subst (λ text. Selects text (value_document c.args.message.now) told.0) rule told.1,
        λ none.
            let size : length told.0 ≡ 0 = ap length none in
            grind (arith, common_steps),
      ),
    )
