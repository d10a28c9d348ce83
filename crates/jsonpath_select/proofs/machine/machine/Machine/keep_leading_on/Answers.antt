use Rattle.std.proofs.Common.{false, List, ap, filter, subst, sym, ◌∙◌}
use Rattle.std.proofs.lemmas.Result.{IfOk-weaker}
use Rattle.jsonpath_nodes.specs.place.Location.{Location}
use Rattle.jsonpath_nodes.specs.place.Mark.{MarksStandAt}
use Rattle.jsonpath_paths.specs.tree.Tree.{PathSteps, lone, path}
use Rattle.jsonpath_select.specs.Meaning.{holds}
use Rattle.jsonpath_select.specs.plan.NextFilter.{CodesCondition, CodesSteps}
use Rattle.jsonpath_select.specs.declared.machine.instruction.Instruction.{Instruction}
use Rattle.jsonpath_select.proofs.filters.NextFilterLemmas.{empty, no_steps_left}
use Rattle.jsonpath_select.proofs.walk.LeadingOnLemmas.{all_lead}
use Rattle.jsonpath_select.proofs.machine.machine.Machine.keep_leading_on.Goals as goal

pub returns-then-is_empty : goal.returns-then-is_empty
returns-then-is_empty g c = λ ss ls codes there.
    let text = c.args.self.now.text.now in
    let doc = g.M.Mark.content c.args.self.now.root.now in
    let none = no_steps_left ss (subst (λ (is : List Instruction). CodesSteps is ss) (empty c.args.steps.now (sym c.is_empty.ensures ∙ c.if-is_empty.true)) codes) in
    let same = all_lead text doc ls ∙ ap (λ (steps : PathSteps). filter (λ l. holds text doc (lone (path false steps)) l) ls) (sym none) in
    (subst (λ (ks : List Location). MarksStandAt g.M.Mark.located g.M.Mark.stand g.M.Mark.content doc ks c.args.marks.items) same there, tt)

pub keep_passing_with_standing-requires : goal.keep_passing_with_standing-requires
keep_passing_with_standing-requires g c =
    let ss = c.requires.steps.0 in
    let codes = subst (λ (is : List Instruction). CodesCondition is (lone (path false ss))) (sym c.as_slice.ensures.value) (c.in_ok-condition.ensures ss c.requires.steps.1) in
    record { is = (lone (path false ss), codes); there = (c.requires.there.0, (c.requires.there.1, tt)) }

pub returns : goal.returns
returns g c =
    IfOk-weaker c.keep_passing_with_standing.result _ _
    (λ found keeps ss ls codes there.
    keeps (lone (path false ss)) ls (subst (λ (is : List Instruction). CodesCondition is (lone (path false ss))) (sym c.as_slice.ensures.value) (c.in_ok-condition.ensures ss codes)) (there, tt))
    c.keep_passing_with_standing.ensures
