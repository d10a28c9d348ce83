use Rattle.std.proofs.Common.{false, [], ◌∷◌, ◌++◌, List, map, ap, ◌∙◌}
use Rattle.std.proofs.lemmas.List.{map-append}
use Rattle.jsonpath_select.specs.plan.Code as code
use Rattle.jsonpath_select.specs.plan.Ordered.{instruction_of}
use Rattle.jsonpath_select.specs.declared.machine.instruction.Instruction.{Instruction}
use Rattle.jsonpath_select.specs.declared.machine.instruction.Instruction.TheVariants.{Leave, Start}
use Rattle.jsonpath_select.proofs.filters.leading_on.lone_condition.Goals as goal

pub returns : goal.returns
returns c = λ ss codes.
    let steps = c.args.steps.now in
    ap (map instruction_of) (c.in_ok-push-2.ensures.items ∙ ap (λ (is : List Instruction). is ++ Leave ∷ []) (c.in_ok-extend_from_slice.ensures.items ∙ ap (λ (is : List Instruction). is ++ steps) (c.in_ok-push.ensures.items ∙ ap (λ (is : List Instruction). is ++ Start false ∷ []) c.new-code.ensures.items)))
    ∙ ap (λ (is : List code.Instruction). code.start false ∷ is) (map-append instruction_of steps (Leave ∷ []) ∙ ap (λ (is : List code.Instruction). is ++ code.leave ∷ []) codes)
