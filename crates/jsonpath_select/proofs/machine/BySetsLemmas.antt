-- The instructions by sets, one after the other.
use Rattle.std.proofs.Common.{◌≡◌, ℕ, ◌+◌, ◌-◌, ◌<◌, List, [], ◌∷◌, ◌++◌, map, length, take, get_or, refl, sym, ap, ◌∙◌, append_assoc, append-nil, length-append, arith}
use Rattle.std.proofs.lemmas.List.{length-map, map-append, take-map, take_more}
use Rattle.jsonpath_paths.specs.tree.Tree.{Condition}
use Rattle.jsonpath_select.specs.plan.Code as code
use Rattle.jsonpath_select.specs.plan.Code.{all_by_sets, by_sets, condition_code, leave}
use Rattle.jsonpath_select.specs.plan.NextFilter.{CodesCondition}
use Rattle.jsonpath_select.specs.plan.Ordered.{instruction_of}
use Rattle.jsonpath_select.specs.declared.machine.instruction.Instruction.{Instruction}

pub sets-append : (is js : List code.Instruction) → all_by_sets (is ++ js) ≡ all_by_sets is ++ all_by_sets js
sets-append [] js = refl
sets-append (i ∷ is) js = ap (λ (ks : List code.Instruction). by_sets i ++ ks) (sets-append is js) ∙ sym (append_assoc (by_sets i) (all_by_sets is) (all_by_sets js))

pub by_sets_next : (is : List Instruction) (k : ℕ) (i : Instruction) (front old new : List code.Instruction) → k < length is → i ≡ get_or is k i
    → old ≡ front ++ all_by_sets (map instruction_of (take k is)) → new ≡ old ++ by_sets (instruction_of i) → new ≡ front ++ all_by_sets (map instruction_of (take (k + 1) is))
by_sets_next is k i front old new below same before more =
    let so_far = all_by_sets (map instruction_of (take k is)) in
    let next : all_by_sets (map instruction_of (take (k + 1) is)) ≡ so_far ++ by_sets (instruction_of i) =
    ap (λ (js : List Instruction). all_by_sets (map instruction_of js)) (take_more is k i below ∙ ap (λ (j : Instruction). take k is ++ j ∷ []) (sym same))
    ∙ ap all_by_sets (map-append instruction_of (take k is) (i ∷ [])) ∙ sets-append (map instruction_of (take k is)) (instruction_of i ∷ []) ∙ ap (λ (js : List code.Instruction). so_far ++ js) (append-nil (by_sets (instruction_of i))) in
    more ∙ ap (λ (js : List code.Instruction). js ++ by_sets (instruction_of i)) before ∙ append_assoc front so_far (by_sets (instruction_of i)) ∙ ap (λ (js : List code.Instruction). front ++ js) (sym next)

-- a condition without the end of its filter
pub without_end : (is : List Instruction) (f : Condition) → CodesCondition is f → map instruction_of (take (length is - 1) is) ≡ condition_code f
without_end is f h =
    let many : length is ≡ length (condition_code f) + 1 = sym (length-map is instruction_of) ∙ ap length h ∙ length-append (condition_code f) (leave ∷ []) in
    let n : length is - 1 ≡ length (condition_code f) = omega arith in
    sym (take-map instruction_of (length is - 1) is) ∙ ap (take (length is - 1)) h ∙ ap (λ m. take m (condition_code f ++ leave ∷ [])) n ∙ front (condition_code f)
  where
    front : (xs : List code.Instruction) → take (length xs) (xs ++ leave ∷ []) ≡ xs
    front [] = refl
    front (x ∷ xs) = ap (λ (ys : List code.Instruction). x ∷ ys) (front xs)
