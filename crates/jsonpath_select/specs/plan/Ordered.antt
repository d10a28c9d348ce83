-- The code's instructions, and its scan: the instructions and the open brackets are held with their front last.
use Rattle.std.specs.Prelude.{Bool, List, map, reverse}
use Rattle.jsonpath_select.specs.plan.Code as code
use Rattle.jsonpath_select.specs.declared.machine.instruction.Instruction.{Instruction}
use Rattle.jsonpath_select.specs.declared.machine.instruction.Instruction.TheVariants.{Start, Step, Enter, Leave, Constant, Compares, Joins, Topmost, InOrder, Distinct, PutBack}

abbrev pub instruction_of : Instruction → code.Instruction
instruction_of (Start absolute) = code.start absolute
instruction_of (Step leaves token) = code.plain_step leaves token.now
instruction_of (Enter leaves deep) = code.enter leaves deep
instruction_of Leave = code.leave
instruction_of (Constant token) = code.constant token.now
instruction_of (Compares op) = code.compares op
instruction_of (Joins op) = code.joins op
instruction_of Topmost = code.topmost
instruction_of InOrder = code.in_order
instruction_of Distinct = code.distinct
instruction_of PutBack = code.put_back

abbrev pub front_of : List Instruction → List code.Instruction
front_of is = map instruction_of (reverse is)

abbrev pub scan_of : List Instruction → List Bool → code.Scan
scan_of is os = record { code = front_of is; own = reverse os }
