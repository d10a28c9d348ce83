use Rattle.jsonpath_select.proofs.machine.StandingLemmas.{standing_at, no_star_disjoint}
use Rattle.jsonpath_select.proofs.machine.standing.Standing.after_filter_or_indexes.Goals as goal

pub returns-in-Disjoint-clause-filter : goal.returns-in-Disjoint-clause-filter
returns-in-Disjoint-clause-filter c = λ ls test s. c.steps_keep_locations_disjoint.ensures.kept test ls (standing_at ls c.args.self _ c.in-Disjoint.is s)

pub returns-in-Disjoint-clause-indexes : goal.returns-in-Disjoint-clause-indexes
returns-in-Disjoint-clause-indexes c = λ doc p ls other once s. c.steps_keep_locations_disjoint.ensures.step doc p ls once (no_star_disjoint doc p ls other) (standing_at ls c.args.self _ c.in-Disjoint.is s)

pub returns-in-Apart-clause-filter : goal.returns-in-Apart-clause-filter
returns-in-Apart-clause-filter c = λ ls test s. c.steps_keep_locations_apart.ensures.kept test ls (standing_at ls c.args.self _ c.in-Apart.is s)

pub returns-in-Apart-clause-indexes : goal.returns-in-Apart-clause-indexes
returns-in-Apart-clause-indexes c = λ doc p ls other once s. c.steps_keep_locations_apart.ensures.step doc p ls other once (standing_at ls c.args.self _ c.in-Apart.is s)

pub returns-in-Distinct-clause-filter : goal.returns-in-Distinct-clause-filter
returns-in-Distinct-clause-filter c = λ ls test s. c.steps_lead_without_repeats.ensures.kept test ls (standing_at ls c.args.self _ c.in-Distinct.is s)

pub returns-in-Distinct-clause-indexes : goal.returns-in-Distinct-clause-indexes
returns-in-Distinct-clause-indexes c = λ doc p ls other once s. c.steps_lead_without_repeats.ensures.child doc p ls other once (standing_at ls c.args.self _ c.in-Distinct.is s)
