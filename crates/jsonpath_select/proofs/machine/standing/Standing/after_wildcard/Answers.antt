use Rattle.jsonpath_nodes.specs.step.Steps.{every}
use Rattle.jsonpath_select.proofs.machine.StandingLemmas.{standing_at}
use Rattle.jsonpath_select.proofs.machine.standing.Standing.after_wildcard.Goals as goal

pub returns-in-Disjoint : goal.returns-in-Disjoint
returns-in-Disjoint c = λ doc ls ordered s. c.steps_keep_locations_disjoint.ensures.step doc every ls tt (λ e. ordered) (standing_at ls c.args.self _ c.in-Disjoint.is s)

pub returns-in-Apart : goal.returns-in-Apart
returns-in-Apart c = λ doc ls ordered s. c.steps_lead_without_repeats.ensures.every doc ls ordered (c.apart_locations_meet_candidates_once.ensures.no_repeat ls (standing_at ls c.args.self _ c.in-Apart.is s))

pub returns-in-Distinct : goal.returns-in-Distinct
returns-in-Distinct c = λ doc ls ordered s. c.steps_lead_without_repeats.ensures.every doc ls ordered (standing_at ls c.args.self _ c.in-Distinct.is s)
