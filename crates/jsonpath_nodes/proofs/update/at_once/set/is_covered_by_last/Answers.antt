use Rattle.std.proofs.Common.{◌≡◌, List, [], ◌∷◌, ◌++◌, map, Bor, sym, ap, ◌∙◌, append_assoc}
use Rattle.std.proofs.lemmas.List.{map-append}
use Rattle.jsonpath_nodes.specs.place.Location.{Location}
use Rattle.jsonpath_nodes.specs.update.Topmost.{with_answer_at_topmost}
use Rattle.jsonpath_nodes.proofs.step.CoveredLemmas.{covered}
use Rattle.jsonpath_nodes.proofs.update.at_once.set.is_covered_by_last.Goals as goal

pub returns-in-Some : goal.returns-in-Some
returns-in-Some c = λ h answer ls d.
    let now : Bor Location → Location = λ t. t.now in
    let front : List Location = map now c.in-Some.field-0-1.now in
    let l = c.in-Some.top.now.now in
    let m = c.args.location.now in
    let split : map now c.args.tops.now ≡ front ++ l ∷ [] = ap (map now) c.in-Some.ensures.cases.0 ∙ map-append now c.in-Some.field-0-1.now (c.in-Some.top.now ∷ []) in
    ap (λ (xs : List Location). with_answer_at_topmost answer (xs ++ m ∷ ls) d) split ∙ ap (λ (xs : List Location). with_answer_at_topmost answer xs d) (append_assoc front (l ∷ []) (m ∷ ls))
    ∙ covered answer front ls l m (sym c.is_non_root_at_or_above.ensures ∙ h) d
    ∙ sym (ap (λ (xs : List Location). with_answer_at_topmost answer xs d) (append_assoc front (l ∷ []) ls))
    ∙ sym (ap (λ (xs : List Location). with_answer_at_topmost answer (xs ++ ls) d) split)
