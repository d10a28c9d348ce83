use Rattle.std.proofs.Common.{◌≡◌, ◌-◌, length, map, drop, Some}
use Rattle.jsonpath_select.specs.plan.Machine.{State, run_all}
use Rattle.jsonpath_select.specs.plan.Stack.{ShowsStacks}
use Rattle.jsonpath_select.specs.plan.Ordered.{instruction_of}
use Rattle.jsonpath_select.proofs.machine.machine.Machine.execute_all.Given as goal

-- the instructions that are left lead from what is shown to where all lead
abbrev pub invariant-loop-at : goal.invariant-loop-at
invariant-loop-at g l =
    (s t : State) → ShowsStacks g.M.Mark.located g.M.Mark.stand g.M.Mark.content l.self.text.now (g.M.Mark.content l.self.root.now) s l.initial.stacks → run_all l.self.text.now (g.M.Mark.content l.self.root.now) (map instruction_of l.code) s ≡ Some t
    → (u : State) × ShowsStacks g.M.Mark.located g.M.Mark.stand g.M.Mark.content l.self.text.now (g.M.Mark.content l.self.root.now) u l.stacks × (run_all l.self.text.now (g.M.Mark.content l.self.root.now) (map instruction_of (drop l.at l.code)) u ≡ Some t)

abbrev pub decreases-loop-at : goal.decreases-loop-at
decreases-loop-at g l = length l.code - l.at
