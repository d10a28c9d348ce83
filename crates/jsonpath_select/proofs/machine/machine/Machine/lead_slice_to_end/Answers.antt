use Rattle.std.proofs.Common.{Option, sym, subst, filter}
use Rattle.std.proofs.lemmas.Result.{IfOk-weaker}
use Rattle.jsonpath_paths.specs.tree.Tree.{Condition}
use Rattle.jsonpath_nodes.specs.place.Mark.{MarksStandAt}
use Rattle.jsonpath_select.specs.Meaning.{follow, holds}
use Rattle.jsonpath_select.specs.plan.First.{kept_by}
use Rattle.jsonpath_select.proofs.filters.SliceLemmas.{some_condition}
use Rattle.jsonpath_select.proofs.machine.machine.Machine.lead_slice_to_end.Goals as goal

pub lead_to_end-requires : goal.lead_to_end-requires
lead_to_end-requires g c =
    let some = some_condition c.args.condition c.in-Some.condition c.requires.is.0 c.in-Some.is c.requires.is.1 in
    let ls = c.requires.there.0 in
    record { steps = c.requires.steps; there = (filter (λ l. holds c.args.self.now.text.now (g.M.Mark.content c.args.self.now.root.now) some.0 l) ls, c.in_ok-kept-in-Some.ensures some.0 ls some.2 c.requires.there.1) }

pub returns-in_ok-kept-in-Some : goal.returns-in_ok-kept-in-Some
returns-in_ok-kept-in-Some g c =
    let text = c.args.self.now.text.now in
    let doc = g.M.Mark.content c.args.self.now.root.now in
    IfOk-weaker c.lead_to_end.result _ _
    (λ found leads f ss ls is steps there.
    let some = some_condition c.args.condition c.in-Some.condition f c.in-Some.is is in
    subst (λ (o : Option Condition). MarksStandAt g.M.Mark.located g.M.Mark.stand g.M.Mark.content doc (follow text doc ss (kept_by text doc o ls)) found.items) (sym some.1)
    (leads ss (filter (λ l. holds text doc some.0 l) ls) steps (c.in_ok-kept-in-Some.ensures some.0 ls some.2 there)))
    c.lead_to_end.ensures
