use Rattle.std.proofs.Common.{◌≡◌, ℕ, Bool, List, refl, sym, subst}
use Rattle.std.proofs.lemmas.Result.{on_ok_weaker}
use Rattle.jsonpath_nodes.specs.document.Document.{Document}
use Rattle.jsonpath_nodes.specs.place.Location.{Location}
use Rattle.jsonpath_nodes.specs.place.Order.{once_in_order}
use Rattle.jsonpath_nodes.specs.step.SameMembers.{topmost}
use Rattle.jsonpath_select.specs.plan.Code as code
use Rattle.jsonpath_select.specs.plan.Ordered.{instruction_of}
use Rattle.jsonpath_select.specs.plan.Stack.{Executes}
use Rattle.jsonpath_select.specs.declared.machine.instruction.Instruction.{Instruction}
use Rattle.jsonpath_select.specs.declared.machine.stacks.Stacks.{Stacks}
use Rattle.jsonpath_select.proofs.machine.LeadTopLemmas.{leads}
use Rattle.jsonpath_select.proofs.machine.machine.Machine.execute_instruction.Goals as goal

-- the step of an instruction is that of the one that it is
as_is : {M : Type 0} (located : Bool) (stand : M → Location) (content : M → Document) (text : List ℕ) (doc : Document) (i j : Instruction) (before after : Stacks M) → i ≡ j
    → Executes located stand content text doc (instruction_of j) before after → Executes located stand content text doc (instruction_of i) before after
as_is located stand content text doc i j before after is steps = subst (λ (k : Instruction). Executes located stand content text doc (instruction_of k) before after) (sym is) steps

pub returns-in_ok-start_path-in-Start : goal.returns-in_ok-start_path-in-Start
returns-in_ok-start_path-in-Start g c =
    as_is g.M.Mark.located g.M.Mark.stand g.M.Mark.content c.args.self.now.text.now (g.M.Mark.content c.args.self.now.root.now) c.args.instruction _ c.args.stacks.now c.start_path.new.stacks c.in-Start.is c.in_ok-start_path-in-Start.ensures

pub returns-in-Step : goal.returns-in-Step
returns-in-Step g c =
    on_ok_weaker c.take_plain_step.result
    (λ steps. as_is g.M.Mark.located g.M.Mark.stand g.M.Mark.content c.args.self.now.text.now (g.M.Mark.content c.args.self.now.root.now) c.args.instruction _ c.args.stacks.now c.take_plain_step.new.stacks c.in-Step.is (steps (g.M.Mark.content c.args.self.now.root.now)))
    c.take_plain_step.ensures

pub returns-in-Enter : goal.returns-in-Enter
returns-in-Enter g c =
    on_ok_weaker c.begin_filter.result
    (λ steps. as_is g.M.Mark.located g.M.Mark.stand g.M.Mark.content c.args.self.now.text.now (g.M.Mark.content c.args.self.now.root.now) c.args.instruction _ c.args.stacks.now c.begin_filter.new.stacks c.in-Enter.is (steps (g.M.Mark.content c.args.self.now.root.now)))
    c.begin_filter.ensures

pub returns-in_ok-end_filter-in-Leave : goal.returns-in_ok-end_filter-in-Leave
returns-in_ok-end_filter-in-Leave g c =
    as_is g.M.Mark.located g.M.Mark.stand g.M.Mark.content c.args.self.now.text.now (g.M.Mark.content c.args.self.now.root.now) c.args.instruction _ c.args.stacks.now c.end_filter.new.stacks c.in-Leave.is (c.in_ok-end_filter-in-Leave.ensures (g.M.Mark.content c.args.self.now.root.now))

pub returns-in-Compares : goal.returns-in-Compares
returns-in-Compares g c =
    on_ok_weaker c.compare_two_operands.result
    (λ steps. as_is g.M.Mark.located g.M.Mark.stand g.M.Mark.content c.args.self.now.text.now (g.M.Mark.content c.args.self.now.root.now) c.args.instruction _ c.args.stacks.now c.compare_two_operands.new.stacks c.in-Compares.is (steps (g.M.Mark.content c.args.self.now.root.now)))
    c.compare_two_operands.ensures

pub returns-in_ok-join_two_conditions-in-Joins : goal.returns-in_ok-join_two_conditions-in-Joins
returns-in_ok-join_two_conditions-in-Joins g c =
    as_is g.M.Mark.located g.M.Mark.stand g.M.Mark.content c.args.self.now.text.now (g.M.Mark.content c.args.self.now.root.now) c.args.instruction _ c.args.stacks.now c.join_two_conditions.new.stacks c.in-Joins.is (c.in_ok-join_two_conditions-in-Joins.ensures (g.M.Mark.content c.args.self.now.root.now))

pub returns-in-Topmost : goal.returns-in-Topmost
returns-in-Topmost g c =
    let text = c.args.self.now.text.now in
    let doc = g.M.Mark.content c.args.self.now.root.now in
    on_ok_weaker c.lead_top.result
    (λ led. as_is g.M.Mark.located g.M.Mark.stand g.M.Mark.content text doc c.args.instruction _ c.args.stacks.now c.lead_top.new.stacks c.in-Topmost.is
    (leads g.M.Mark.located g.M.Mark.stand g.M.Mark.content text doc code.topmost topmost c.args.stacks.now c.lead_top.new.stacks ((λ cand os. refl), (λ s. refl)) (led doc)))
    c.lead_top.ensures

pub returns-in-InOrder : goal.returns-in-InOrder
returns-in-InOrder g c =
    let text = c.args.self.now.text.now in
    let doc = g.M.Mark.content c.args.self.now.root.now in
    on_ok_weaker c.lead_top-in-InOrder.result
    (λ led. as_is g.M.Mark.located g.M.Mark.stand g.M.Mark.content text doc c.args.instruction _ c.args.stacks.now c.lead_top-in-InOrder.new.stacks c.in-InOrder.is
    (leads g.M.Mark.located g.M.Mark.stand g.M.Mark.content text doc code.in_order once_in_order c.args.stacks.now c.lead_top-in-InOrder.new.stacks ((λ cand os. refl), (λ s. refl)) (led doc)))
    c.lead_top-in-InOrder.ensures

pub returns-in-Distinct : goal.returns-in-Distinct
returns-in-Distinct g c =
    on_ok_weaker c.put_candidates_aside.result
    (λ steps. as_is g.M.Mark.located g.M.Mark.stand g.M.Mark.content c.args.self.now.text.now (g.M.Mark.content c.args.self.now.root.now) c.args.instruction _ c.args.stacks.now c.put_candidates_aside.new.stacks c.in-Distinct.is (steps (g.M.Mark.content c.args.self.now.root.now)))
    c.put_candidates_aside.ensures

pub returns-in-PutBack : goal.returns-in-PutBack
returns-in-PutBack g c =
    on_ok_weaker c.put_back.result
    (λ steps. as_is g.M.Mark.located g.M.Mark.stand g.M.Mark.content c.args.self.now.text.now (g.M.Mark.content c.args.self.now.root.now) c.args.instruction _ c.args.stacks.now c.put_back.new.stacks c.in-PutBack.is (steps (g.M.Mark.content c.args.self.now.root.now)))
    c.put_back.ensures
