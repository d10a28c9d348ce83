use Rattle.std.proofs.Common.{List, refl, subst}
use Rattle.std.proofs.lemmas.Result.{IfOk-weaker}
use Rattle.jsonpath_nodes.specs.place.Location.{Location}
use Rattle.jsonpath_select.specs.Meaning.{sel}
use Rattle.jsonpath_select.specs.plan.First.{BeginAs}
use Rattle.jsonpath_select.proofs.machine.SelectLemmas.{begins, list_codes}
use Rattle.jsonpath_select.proofs.machine.machine.Machine.first_by_tokens.Goals as goal

pub first_by_instructions-requires : goal.first_by_instructions-requires
first_by_instructions-requires g c =
    let begins = begins c.args.self.now.text.now (g.M.Mark.content c.args.self.now.root.now) c.requires.0 c.as_slice-2.result.now (list_codes c.args.self.now.text.now c.requires.0 c.args.tokens.now c.as_slice-2.result.now c.in_ok-code.code.items c.requires.1 c.as_slice-2.ensures.value c.in_ok-code.ensures) in
    (begins.0, begins.1)

pub returns : goal.returns
returns g c =
    let text = c.args.self.now.text.now in
    let doc = g.M.Mark.content c.args.self.now.root.now in
    IfOk-weaker c.first_by_instructions.result _ _
    (λ found leads p h.
    let begins = begins text doc p c.as_slice-2.result.now (list_codes text p c.args.tokens.now c.as_slice-2.result.now c.in_ok-code.code.items h c.as_slice-2.ensures.value c.in_ok-code.ensures) in
    subst (λ (ls : List Location). BeginAs g.M.Mark.located g.M.Mark.stand g.M.Mark.content doc ls found.items) begins.2 (leads begins.0 begins.1))
    c.first_by_instructions.ensures

pub select_list-requires : goal.select_list-requires
select_list-requires g c = (c.requires.0, list_codes c.args.self.now.text.now c.requires.0 c.args.tokens.now c.as_slice-then-keeps_what_leads_on.result.now c.in_ok-code.code.items c.requires.1 c.as_slice-then-keeps_what_leads_on.ensures.value c.in_ok-code.ensures)

pub returns-then-keeps_what_leads_on : goal.returns-then-keeps_what_leads_on
returns-then-keeps_what_leads_on g c =
    let text = c.args.self.now.text.now in
    let doc = g.M.Mark.content c.args.self.now.root.now in
    IfOk-weaker c.select_list.result _ _
    (λ found leads p h. (sel text doc p, leads p (list_codes text p c.args.tokens.now c.as_slice-then-keeps_what_leads_on.result.now c.in_ok-code.code.items h c.as_slice-then-keeps_what_leads_on.ensures.value c.in_ok-code.ensures), refl))
    c.select_list.ensures
