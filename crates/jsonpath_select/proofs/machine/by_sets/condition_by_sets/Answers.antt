use Rattle.std.proofs.Common.{◌≡◌, ◌≤◌, ◌-◌, ◌++◌, [], ◌∷◌, List, length, map, take, sym, ap, ◌∙◌, append_assoc, append-nil, drop_of_length-le}
use Rattle.std.proofs.lemmas.List.{map-append, take-append-drop}
use Rattle.jsonpath_select.specs.plan.Code as code
use Rattle.jsonpath_select.specs.plan.Code.{all_by_sets, distinct, leave, put_back}
use Rattle.jsonpath_select.specs.plan.Ordered.{instruction_of}
use Rattle.jsonpath_select.specs.declared.machine.instruction.Instruction.{Instruction}
use Rattle.jsonpath_select.specs.declared.machine.instruction.Instruction.TheVariants.{Leave, PutBack}
use Rattle.jsonpath_select.proofs.machine.BySetsLemmas.{by_sets_next, without_end}
use Rattle.jsonpath_select.proofs.machine.by_sets.condition_by_sets.Goals as goal

whole : (is : List Instruction) (k : _) → length is ≤ k → take k is ≡ is
whole is k h = sym (append-nil (take k is)) ∙ ap (λ (js : List Instruction). take k is ++ js) (sym (drop_of_length-le is {i = k} h)) ∙ take-append-drop k is

pub loop-instruction-preserved : goal.loop-instruction-preserved
loop-instruction-preserved c =
    by_sets_next (take c.saturating_sub.result c.args.condition.now) c.loop-instruction.instruction-index c.instruction-item.result (distinct ∷ []) _ _ c.loop-instruction-test.true c.instruction-item.is c.loop-instruction.invariant c.in_ok-push_by_sets.ensures

pub returns : goal.returns
returns c = λ f codes.
    let items : List Instruction = take c.saturating_sub.result c.args.condition.now in
    let many : c.saturating_sub.result ≡ length c.args.condition.now - 1 = c.saturating_sub.ensures in
    let all : map instruction_of c.loop-instruction.found.items ≡ distinct ∷ all_by_sets (map instruction_of items) =
    c.loop-instruction.invariant ∙ ap (λ (is : List Instruction). distinct ∷ all_by_sets (map instruction_of is)) (whole items c.loop-instruction.instruction-index c.loop-instruction-test.false) in
    let front : map instruction_of items ≡ code.condition_code f = ap (λ n. map instruction_of (take n c.args.condition.now)) many ∙ without_end c.args.condition.now f codes in
    ap (map instruction_of) (c.in_ok-push-3.ensures.items ∙ ap (λ (is : List Instruction). is ++ PutBack ∷ []) c.in_ok-push-2.ensures.items)
    ∙ map-append instruction_of (c.loop-instruction.found.items ++ Leave ∷ []) (PutBack ∷ [])
    ∙ ap (λ (is : List code.Instruction). is ++ put_back ∷ []) (map-append instruction_of c.loop-instruction.found.items (Leave ∷ []) ∙ ap (λ (is : List code.Instruction). is ++ leave ∷ []) (all ∙ ap (λ (is : List code.Instruction). distinct ∷ all_by_sets is) front))
    ∙ append_assoc (distinct ∷ all_by_sets (code.condition_code f)) (leave ∷ []) (put_back ∷ [])
