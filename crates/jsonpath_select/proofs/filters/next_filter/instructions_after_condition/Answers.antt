use Rattle.std.proofs.Common.{List, map, ap, ◌∙◌}
use Rattle.std.proofs.lemmas.List.{take_rest}
use Rattle.jsonpath_select.specs.plan.Ordered.{instruction_of}
use Rattle.jsonpath_select.specs.declared.machine.instruction.Instruction.{Instruction}
use Rattle.jsonpath_select.proofs.filters.next_filter.instructions_after_condition.Goals as goal

pub returns-clause-behind : goal.returns-clause-behind
returns-clause-behind c = ap (λ (is : List Instruction). map instruction_of is) (take_rest c.args.left.now c.condition_end.result) ∙ c.condition_end.ensures.behind
