use Rattle.std.proofs.Common.{◌≡◌, List, [], map, drop, Some, sym, ap, ◌∙◌, subst, drop_of_length-le}
use Rattle.jsonpath_select.specs.plan.Machine.{State, run_all}
use Rattle.jsonpath_select.specs.plan.Ordered.{instruction_of}
use Rattle.jsonpath_select.specs.plan.Stack.{ShowsStacks}
use Rattle.jsonpath_select.specs.declared.machine.instruction.Instruction.{Instruction}
use Rattle.jsonpath_select.proofs.machine.OrderedLemmas.{between}
use Rattle.jsonpath_select.proofs.machine.machine.Machine.execute_all.Goals as goal

pub loop-at-init : goal.loop-at-init
loop-at-init g c = λ s t h e. (s, h, e)

pub execute_next-requires : goal.execute_next-requires
execute_next-requires g c =
    let can = c.requires in
    let held = c.loop-at.invariant can.0 can.1 can.2 can.3 in
    record { some = c.loop-at-test.true; can = (held.0, can.1, held.1, held.2) }

pub loop-at-preserved : goal.loop-at-preserved
loop-at-preserved g c = λ s t h e.
    let held = c.loop-at.invariant s t h e in
    let code = c.args.code.now in
    let taken = c.in_ok-at.ensures in
    let next = between c.args.self.now.text.now (g.M.Mark.content c.args.self.now.root.now) (drop c.loop-at.at code) taken.1 (drop c.in_ok-at.at code) held.0 t taken.2 held.2 in
    (next.0, taken.3 held.0 next.0 held.1 next.1, next.2)

pub returns : goal.returns
returns g c = λ s t h e.
    let held = c.loop-at.invariant s t h e in
    let none : drop c.loop-at.at c.args.code.now ≡ [] = drop_of_length-le c.args.code.now {i = c.loop-at.at} c.loop-at-test.false in
    let last : Some held.0 ≡ Some t = ap (λ (js : List Instruction). run_all c.args.self.now.text.now (g.M.Mark.content c.args.self.now.root.now) (map instruction_of js) held.0) (sym none) ∙ held.2 in
    let same : held.0 ≡ t = cc in
    subst (λ (u : State). ShowsStacks g.M.Mark.located g.M.Mark.stand g.M.Mark.content c.args.self.now.text.now (g.M.Mark.content c.args.self.now.root.now) u c.loop-at.stacks) same held.1
