use Rattle.std.proofs.Common.{sym, subst}
use Rattle.jsonpath_nodes.specs.step.Steps.{step}
use Rattle.jsonpath_select.specs.Parts.{at_index, index_in, plain_of}
use Rattle.jsonpath_select.specs.plan.Standing.{IsStanding}
use Rattle.jsonpath_select.proofs.machine.StandingLemmas.{index_is_no_star, index_once}
use Rattle.jsonpath_select.proofs.machine.standing.Standing.after_token.Goals as goal

pub returns-in-Number : goal.returns-in-Number
returns-in-Number c = λ doc ls s.
    let n = index_in c.in-Number.field-0 in
    subst (λ token. IsStanding c.after_filter_or_indexes.result (step doc (plain_of c.args.text.now token) ls)) (sym c.in-Number.is) (c.after_filter_or_indexes.ensures.indexes doc (at_index n) ls (index_is_no_star n) (index_once n) s)
