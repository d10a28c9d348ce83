use Rattle.std.proofs.Common.{sym, ◌∙◌}
use Rattle.jsonpath_nodes.proofs.step.InOrderLemmas.{sorted_behind, sorted_alone}
use Rattle.jsonpath_nodes.proofs.update.locations.is_after_last_location.Goals as goal

pub returns-in-Some : goal.returns-in-Some
returns-in-Some c = λ h s. sorted_behind c.args.found.now c.in-Some.field-0-1.now c.in-Some.last.now c.args.location.now c.in-Some.ensures.cases.0 (sym c.lt.ensures ∙ h) s

pub returns-in-None : goal.returns-in-None
returns-in-None c = λ h s. sorted_alone c.args.found.now c.args.location.now c.in-None.ensures.cases
