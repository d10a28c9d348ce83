use Rattle.std.proofs.lemmas.Result.{IfOk-weaker}
use Rattle.jsonpath_select.proofs.machine.SelectLemmas.{list_codes}
use Rattle.jsonpath_select.proofs.machine.machine.Machine.select_by_tokens.Goals as goal

pub select_list-requires : goal.select_list-requires
select_list-requires g c = (c.requires.0, list_codes c.args.self.now.text.now c.requires.0 c.args.tokens.now c.as_slice-2.result.now c.in_ok-code.code.items c.requires.1 c.as_slice-2.ensures.value c.in_ok-code.ensures)

pub returns : goal.returns
returns g c =
    IfOk-weaker c.select_list.result _ _
    (λ found leads p h. leads p (list_codes c.args.self.now.text.now p c.args.tokens.now c.as_slice-2.result.now c.in_ok-code.code.items h c.as_slice-2.ensures.value c.in_ok-code.ensures))
    c.select_list.ensures
