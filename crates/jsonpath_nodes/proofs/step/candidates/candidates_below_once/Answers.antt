use Rattle.std.proofs.Common.{◌≡◌, List, [], ◌∷◌, length, get_or, true, sym, subst, arith}
use Rattle.std.proofs.lemmas.Result.{IfOk-weaker}
use Rattle.std.specs.Prelude.{IfOk}
use Rattle.jsonpath_nodes.specs.place.Mark.{MarksLeadBy, MarksStandAt}
use Rattle.jsonpath_nodes.specs.place.SpotPlace.{place_location, place_value}
use Rattle.jsonpath_nodes.specs.step.Steps.{step, all_below, every, flattened}
use Rattle.jsonpath_nodes.proofs.step.candidates.candidates_below_once.Goals as goal

alone : {A : Type 0} (xs : List A) (x : A) → length xs ≡ 1 → x ≡ get_or xs 0 x → xs ≡ x ∷ []
alone [] x one is = cc
alone (y ∷ []) x one is = cc
alone (y ∷ z ∷ ys) x one is = absurd (omega (arith, one))

pub returns-in-len1 : goal.returns-in-len1
returns-in-len1 g c =
    let all = alone c.args.places.now c.place-item.result (omega (arith, c.in-len1.len_at_least, c.in-len1.len_below)) c.place-item.is in
    subst (λ ms. IfOk c.candidates_below_mark.result (λ found. MarksLeadBy true (place_location g.T.Name.Name.bytes) (place_value g.T.Tree.content) (λ doc ls. flattened doc (step doc every (all_below doc ls))) ms found.items)) (sym all)
    c.candidates_below_mark.ensures

pub returns-in_ok-lower-in_default : goal.returns-in_ok-lower-in_default
returns-in_ok-lower-in_default g c =
    IfOk-weaker c.flattened_once.result _ _
    (λ found leads doc ls stand. leads doc (step doc every (all_below doc ls))
    (subst (λ ms. MarksStandAt true (place_location g.T.Name.Name.bytes) (place_value g.T.Tree.content) doc (step doc every (all_below doc ls)) ms) (sym c.as_slice.ensures.value) (c.in_ok-lower-in_default.ensures doc ls stand)))
    c.flattened_once.ensures
