-- Code without filters.
use Rattle.std.specs.Prelude.{Bool, true, false}
use Rattle.jsonpath_select.specs.declared.machine.instruction.Instruction.{Instruction}
use Rattle.jsonpath_select.specs.declared.machine.instruction.Instruction.TheVariants.{Step}

abbrev pub is_plain_step : Instruction → Bool
is_plain_step (Step leaves token) = true
is_plain_step _ = false
