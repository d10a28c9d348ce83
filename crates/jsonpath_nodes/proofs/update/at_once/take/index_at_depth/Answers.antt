use Rattle.std.proofs.Common.{◌∙◌, sym, ap}
use Rattle.jsonpath_nodes.specs.place.Owned.{owned_step}
use Rattle.jsonpath_nodes.specs.plan.Groups.{first_index}
use Rattle.jsonpath_nodes.proofs.update.GroupLemmas.{stands}
use Rattle.jsonpath_nodes.proofs.update.at_once.take.index_at_depth.Goals as goal

pub returns-in-Index-clause-at : goal.returns-in-Index-clause-at
returns-in-Index-clause-at c =
    let there = stands c.args.depth c.steps.result.now c.steps.ensures c.in_ok-i.ensures.lookup.3.0 c.in_ok-i.ensures.lookup.1 (ap owned_step c.in-Index.is) in
    c.then_some.ensures ∙ sym (ap (first_index c.args.len) there)

pub returns-in-Name-clause-at : goal.returns-in-Name-clause-at
returns-in-Name-clause-at c =
    let there = stands c.args.depth c.steps.result.now c.steps.ensures c.in_ok-i.ensures.lookup.3.0 c.in_ok-i.ensures.lookup.1 (ap owned_step c.in-Name.is) in
    sym (ap (first_index c.args.len) there)
