use Rattle.std.proofs.Common.{refl}
use Rattle.std.proofs.lemmas.Result.{IfOk-weaker}
use Rattle.jsonpath_select.specs.Meaning.{sel}
use Rattle.jsonpath_select.proofs.machine.SelectLemmas.{list_codes}
use Rattle.jsonpath_select.proofs.machine.machine.Machine.select_set_by_tokens.Goals as goal

pub select_set-requires : goal.select_set-requires
select_set-requires g c = (c.requires.0, list_codes c.args.self.now.text.now c.requires.0 c.args.tokens.now c.as_slice-then-is_better_by_sets.result.now c.in_ok-code.code.items c.requires.1 c.as_slice-then-is_better_by_sets.ensures.value c.in_ok-code.ensures)

pub returns-then-is_better_by_sets : goal.returns-then-is_better_by_sets
returns-then-is_better_by_sets g c =
    IfOk-weaker c.select_set.result _ _
    (λ found leads p h. leads p (list_codes c.args.self.now.text.now p c.args.tokens.now c.as_slice-then-is_better_by_sets.result.now c.in_ok-code.code.items h c.as_slice-then-is_better_by_sets.ensures.value c.in_ok-code.ensures))
    c.select_set.ensures

pub select_list-requires : goal.select_list-requires
select_list-requires g c = (c.requires.0, list_codes c.args.self.now.text.now c.requires.0 c.args.tokens.now c.as_slice-2.result.now c.in_ok-code.code.items c.requires.1 c.as_slice-2.ensures.value c.in_ok-code.ensures)

pub returns : goal.returns
returns g c =
    let text = c.args.self.now.text.now in
    let doc = g.M.Mark.content c.args.self.now.root.now in
    IfOk-weaker c.select_list.result _ _
    (λ found leads p h. (sel text doc p, leads p (list_codes text p c.args.tokens.now c.as_slice-2.result.now c.in_ok-code.code.items h c.as_slice-2.ensures.value c.in_ok-code.ensures), refl))
    c.select_list.ensures
