use Rattle.std.proofs.Common.{◌≡◌, List, take, length, ◌+◌, sym, ap, subst, ◌∙◌, arith}
use Rattle.std.proofs.Math.Seq.{take-length}
use Rattle.jsonpath_nodes.specs.place.Location.{Location}
use Rattle.jsonpath_select.specs.plan.Machine.{stepped}
use Rattle.jsonpath_select.specs.plan.Standing.{along, AreStanding}
use Rattle.jsonpath_select.specs.declared.machine.instruction.Instruction.{Instruction}
use Rattle.jsonpath_select.proofs.walk.StandApartLemmas.{along_next}
use Rattle.jsonpath_select.proofs.machine.machine.Machine.follow_steps.Goals as goal

pub loop-step-init : goal.loop-step-init
loop-step-init g c = λ ls from. from

pub loop-step-preserved : goal.loop-step-preserved
loop-step-preserved g c = λ ls from.
    let text = c.args.self.now.text.now in
    let doc = g.M.Mark.content c.args.self.now.root.now in
    let steps = c.args.steps.now in
    let i = c.loop-step.step-index in
    let led = along text doc (take i steps) ls in
    let next : stepped text doc c.in-Step.leaves c.in-Step.token.now led ≡ along text doc (take (i + 1) steps) ls =
    sym (along_next text doc steps i c.step-item.result c.in-Step.leaves c.in-Step.token ls c.loop-step-test.true c.step-item.is c.in-Step.is) in
    subst (λ (ms : List Location). AreStanding g.M.Mark.located g.M.Mark.stand g.M.Mark.content doc ms c.in_ok-led.led) next (c.in_ok-led.ensures led (c.loop-step.invariant ls from))

pub returns : goal.returns
returns g c = λ ls from.
    let steps = c.args.steps.now in
    let end : c.loop-step.step-index ≡ length steps = omega arith in
    let all : take c.loop-step.step-index steps ≡ steps = ap (λ n. take n steps) end ∙ take-length steps in
    subst (λ (is : List Instruction). AreStanding g.M.Mark.located g.M.Mark.stand g.M.Mark.content (g.M.Mark.content c.args.self.now.root.now) (along c.args.self.now.text.now (g.M.Mark.content c.args.self.now.root.now) is ls) c.loop-step.led) all (c.loop-step.invariant ls from)
