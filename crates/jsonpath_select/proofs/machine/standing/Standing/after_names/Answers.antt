use Rattle.jsonpath_select.proofs.machine.StandingLemmas.{standing_at, no_star_by_name}
use Rattle.jsonpath_select.proofs.machine.standing.Standing.after_names.Goals as goal

pub returns-in-Disjoint : goal.returns-in-Disjoint
returns-in-Disjoint c = λ doc p ls names once s. c.steps_keep_locations_disjoint.ensures.step doc p ls once (no_star_by_name doc p ls names) (standing_at ls c.args.self _ c.in-Disjoint.is s)

pub returns-in-Apart : goal.returns-in-Apart
returns-in-Apart c = λ doc p ls names once s. c.steps_keep_locations_apart.ensures.lists doc p ls names once (c.apart_locations_meet_candidates_once.ensures.no_repeat ls (standing_at ls c.args.self _ c.in-Apart.is s))

pub returns-in-Distinct : goal.returns-in-Distinct
returns-in-Distinct c = λ doc p ls names once s. c.steps_keep_locations_apart.ensures.lists doc p ls names once (standing_at ls c.args.self _ c.in-Distinct.is s)
