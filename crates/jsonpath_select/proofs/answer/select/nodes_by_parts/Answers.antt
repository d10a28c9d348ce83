use Rattle.std.proofs.lemmas.Result.{IfOk-weaker}
use Rattle.jsonpath_select.proofs.answer.select.nodes_by_parts.Goals as goal

pub nodes_by_tokens-requires : goal.nodes_by_tokens-requires
nodes_by_tokens-requires g c = (c.requires.listed.path, c.requires.listed.holds)

pub returns : goal.returns
returns g c =
    let listed = c.requires.listed in
    IfOk-weaker c.nodes_by_tokens.result _ _
    (λ found stands. record { path = listed.path; spelled = listed.spelled; holds = stands listed.path listed.holds })
    c.nodes_by_tokens.ensures
