use Rattle.std.proofs.Common.{◌≡◌, suc, ◌+◌, List, [], ◌∷◌, ◌++◌, map, drop, Bor, add-one, refl, sym, ap, subst, ◌∙◌, append_assoc, arith}
use Rattle.std.proofs.lemmas.List.{map-append}
use Rattle.std.proofs.Math.Seq.{drop-cons}
use Rattle.std.specs.List.Sorted.{IsStrictlySortedBy}
use Rattle.jsonpath_nodes.specs.place.Location.{Location, location_cmp}
use Rattle.jsonpath_nodes.specs.update.Topmost.{with_answer_at_topmost}
use Rattle.jsonpath_nodes.proofs.step.CoveredLemmas.{sorted_without}
use Rattle.jsonpath_nodes.proofs.update.at_once.set.topmost_locations.Goals as goal
use Rattle.jsonpath_nodes.proofs.update.at_once.set.topmost_locations.Goals.{then-not-is_covered_by_last+in_ok-push, else-not-is_covered_by_last}

pub loop-location-preserved : goal.loop-location-preserved
loop-location-preserved c =
    let now : Bor Location → Location = λ t. t.now in
    let ls = c.args.locations.now in
    let i = c.loop-location.location-index in
    let m = c.location-item.result in
    let rest : List Location = drop (i + 1) ls in
    let left : drop i ls ≡ m ∷ rest =
    drop-cons ls i m (omega arith) ∙ ap (λ x. x ∷ drop (suc i) ls) (sym c.location-item.is) ∙ ap (λ n. m ∷ drop n ls) (sym (add-one i)) in
    let old = c.loop-location.tops.items in
    let before : List Location = map now old in
    let S : List Location → Type 0 = IsStrictlySortedBy location_cmp in
    let known = c.loop-location.invariant in
    elim c.if-not-is_covered_by_last.branch [
      | then-not-is_covered_by_last+in_ok-push w ↦
          let grown : map now c.if-not-is_covered_by_last.tops.items ++ rest ≡ before ++ drop i ls =
          ap (λ v. map now v.items ++ rest) w.tops-is ∙ ap (λ (xs : List (Bor Location)). map now xs ++ rest) w.in_ok-push.ensures.items
          ∙ ap (λ (xs : List Location). xs ++ rest) (map-append now old _) ∙ append_assoc before (m ∷ []) rest ∙ ap (λ (xs : List Location). before ++ xs) (sym left) in
          record { sorted = subst S (sym grown) known.sorted; same = λ answer d. ap (λ (xs : List Location). with_answer_at_topmost answer xs d) grown ∙ known.same answer d }
      | else-not-is_covered_by_last w ↦
          let stays : map now c.if-not-is_covered_by_last.tops.items ++ rest ≡ before ++ rest = ap (λ v. map now v.items ++ rest) w.tops-is in
          let slice : List Location = map now c.as_slice.result.now in
          let same_slice : slice ≡ before = ap (map now) c.as_slice.ensures.value in
          record {
            sorted = subst S (sym stays) (sorted_without before rest m (subst S (ap (λ (xs : List Location). before ++ xs) left) known.sorted));
            same = λ answer d.
                ap (λ (xs : List Location). with_answer_at_topmost answer xs d) (stays ∙ ap (λ (xs : List Location). xs ++ rest) (sym same_slice)) ∙ sym (w.if-not-is_covered_by_last.ensures refl answer rest d)
                ∙ ap (λ (xs : List Location). with_answer_at_topmost answer (xs ++ m ∷ rest) d) same_slice ∙ ap (λ (xs : List Location). with_answer_at_topmost answer (before ++ xs) d) (sym left) ∙ known.same answer d;
          }
    ]
