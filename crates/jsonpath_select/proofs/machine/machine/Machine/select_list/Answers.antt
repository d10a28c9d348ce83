use Rattle.std.proofs.Common.{List, [], ◌∷◌, subst}
use Rattle.std.proofs.lemmas.Result.{IfOk-weaker}
use Rattle.jsonpath_nodes.specs.place.Location.{Location}
use Rattle.jsonpath_nodes.specs.place.Mark.{MarksStandAt}
use Rattle.jsonpath_select.proofs.machine.SelectLemmas.{begins}
use Rattle.jsonpath_select.proofs.machine.machine.Machine.select_list.Goals as goal

pub lead_to_end-requires : goal.lead_to_end-requires
lead_to_end-requires g c =
    let b = begins c.args.self.now.text.now (g.M.Mark.content c.args.self.now.root.now) c.requires.0 c.args.code.now c.requires.1 in
    record { steps = (b.0, b.1); there = ([] ∷ [], c.in_ok-root.ensures) }

pub returns : goal.returns
returns g c =
    let doc = g.M.Mark.content c.args.self.now.root.now in
    IfOk-weaker c.lead_to_end.result _ _
    (λ found leads p codes.
    let b = begins c.args.self.now.text.now doc p c.args.code.now codes in
    subst (λ (ls : List Location). MarksStandAt g.M.Mark.located g.M.Mark.stand g.M.Mark.content doc ls found.items) b.2 (leads b.0 ([] ∷ []) b.1 c.in_ok-root.ensures))
    c.lead_to_end.ensures

pub lead_on_to_end-requires : goal.lead_on_to_end-requires
lead_on_to_end-requires g c =
    let b = begins c.args.self.now.text.now (g.M.Mark.content c.args.self.now.root.now) c.requires.0 c.args.code.now c.requires.1 in
    record { steps = (b.0, b.1); there = ([] ∷ [], c.in_ok-root.ensures) }

pub returns-then-keeps_what_leads_on : goal.returns-then-keeps_what_leads_on
returns-then-keeps_what_leads_on g c =
    let doc = g.M.Mark.content c.args.self.now.root.now in
    IfOk-weaker c.lead_on_to_end.result _ _
    (λ found leads p codes.
    let b = begins c.args.self.now.text.now doc p c.args.code.now codes in
    subst (λ (ls : List Location). MarksStandAt g.M.Mark.located g.M.Mark.stand g.M.Mark.content doc ls found.items) b.2 (leads b.0 ([] ∷ []) b.1 c.in_ok-root.ensures))
    c.lead_on_to_end.ensures
