use Rattle.jsonpath_select.proofs.machine.StandingLemmas.{standing_at}
use Rattle.jsonpath_select.proofs.machine.standing.Standing.after_flattening.Goals as goal

pub returns-in-Disjoint : goal.returns-in-Disjoint
returns-in-Disjoint c = λ doc ls s. c.steps_keep_locations_disjoint.ensures.candidates doc ls (standing_at ls c.args.self _ c.in-Disjoint.is s)

pub returns-in_default : goal.returns-in_default
returns-in_default c = λ doc ls s. c.apart_locations_meet_candidates_once.ensures.candidates doc ls
