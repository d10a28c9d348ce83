use Rattle.std.proofs.Common.{◌∙◌, Some, sym, ap}
use Rattle.jsonpath_nodes.specs.place.Owned.{owned_step}
use Rattle.jsonpath_nodes.specs.plan.Groups.{first_name}
use Rattle.jsonpath_nodes.proofs.update.GroupLemmas.{stands}
use Rattle.jsonpath_nodes.proofs.update.at_once.take.name_at_depth.Goals as goal

pub returns-in-Name : goal.returns-in-Name
returns-in-Name c =
    let there = stands c.args.depth c.steps.result.now c.steps.ensures c.in_ok-name.ensures.lookup.3.0 c.in_ok-name.ensures.lookup.1 (ap owned_step c.in-Name.is) in
    ap Some c.as_str.ensures.value ∙ sym (ap first_name there)

pub returns-in-Index : goal.returns-in-Index
returns-in-Index c =
    let there = stands c.args.depth c.steps.result.now c.steps.ensures c.in_ok-name.ensures.lookup.3.0 c.in_ok-name.ensures.lookup.1 (ap owned_step c.in-Index.is) in
    sym (ap first_name there)
