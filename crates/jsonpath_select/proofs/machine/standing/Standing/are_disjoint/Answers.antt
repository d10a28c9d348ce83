use Rattle.jsonpath_select.proofs.machine.StandingLemmas.{standing_at}
use Rattle.jsonpath_select.proofs.machine.standing.Standing.are_disjoint.Goals as goal

pub returns-in-Disjoint : goal.returns-in-Disjoint
returns-in-Disjoint c = λ t ls s. standing_at ls c.args.self _ c.in-Disjoint.is s
