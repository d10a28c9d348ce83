use Rattle.std.proofs.Common.{List, sym, subst}
use Rattle.std.proofs.lemmas.List.{take_rest}
use Rattle.jsonpath_select.specs.plan.NextFilter.{CodesSteps, later_steps}
use Rattle.jsonpath_select.specs.declared.machine.instruction.Instruction.{Instruction}
use Rattle.jsonpath_select.proofs.filters.leading_on.instructions_behind_first_step.Goals as goal

pub returns-clause-behind : goal.returns-clause-behind
returns-clause-behind c = λ ss codes.
    subst (λ (behind : List Instruction). CodesSteps behind (later_steps ss)) (sym (take_rest c.args.left.now c.first_step_end.result)) (c.first_step_end.ensures.behind ss codes)
