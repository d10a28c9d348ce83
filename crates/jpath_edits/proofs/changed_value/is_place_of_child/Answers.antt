use Rattle.std.proofs.Common.{◌≡◌, ◌+◌, ◌<◌, ◌≤◌, List, ◌∷◌, sym, ap, ◌∙◌, suc, drop, map, length, arith}
use Rattle.std.proofs.lemmas.List.{drop_more, length-map}
use Rattle.jsonpath_nodes.specs.place.Location.{Location}
use Rattle.jsonpath_nodes.specs.place.Owned.{owned_step}
use Rattle.jsonpath_nodes.specs.update.Topmost.{has_root}
use Rattle.jpath_edits.proofs.ChangedValueLemmas.{goes_on, ends_there}
use Rattle.jpath_edits.proofs.changed_value.is_place_of_child.Goals as goal

pub loop-place-preserved : goal.loop-place-preserved
loop-place-preserved c =
    let l = c.loop-place in
    let depth = c.args.depth in
    let place = c.place-item.result in
    let rest = drop (l.place-index + 1) c.args.places.now in
    let here : drop l.place-index c.args.places.now ≡ place ∷ rest = drop_more c.args.places.now l.place-index place (omega arith) ∙ ap (λ (p : Location). p ∷ rest) (sym c.place-item.is) in
    let long : suc depth < length place = omega (arith, length-map c.steps.result.now owned_step, ap (λ (p : Location). length p) c.steps.ensures, c.saturating_sub.ensures, c.if-saturating_sub-le1.false) in
    sym (goes_on (suc depth) place (map (drop (suc depth)) rest) long) ∙ ap (λ (ps : List Location). has_root (map (drop (suc depth)) ps)) (sym here) ∙ l.invariant

pub returns-then-saturating_sub-le1 : goal.returns-then-saturating_sub-le1
returns-then-saturating_sub-le1 c =
    let l = c.loop-place in
    let depth = c.args.depth in
    let place = c.place-item.result in
    let rest = drop (l.place-index + 1) c.args.places.now in
    let here : drop l.place-index c.args.places.now ≡ place ∷ rest = drop_more c.args.places.now l.place-index place (omega arith) ∙ ap (λ (p : Location). p ∷ rest) (sym c.place-item.is) in
    let short : length place ≤ suc depth = omega (arith, length-map c.steps.result.now owned_step, ap (λ (p : Location). length p) c.steps.ensures, c.saturating_sub.ensures, c.if-saturating_sub-le1.true) in
    sym (ends_there (suc depth) place (map (drop (suc depth)) rest) short) ∙ ap (λ (ps : List Location). has_root (map (drop (suc depth)) ps)) (sym here) ∙ l.invariant
