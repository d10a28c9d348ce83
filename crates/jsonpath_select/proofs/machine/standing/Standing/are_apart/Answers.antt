use Rattle.jsonpath_select.proofs.machine.StandingLemmas.{standing_at}
use Rattle.jsonpath_select.proofs.machine.standing.Standing.are_apart.Goals as goal

pub returns-in-Disjoint : goal.returns-in-Disjoint
returns-in-Disjoint c = λ t ls s. c.steps_keep_locations_disjoint.ensures.apart ls (standing_at ls c.args.self _ c.in-Disjoint.is s)
