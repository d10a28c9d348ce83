use Rattle.jsonpath_nodes.specs.place.Location.{is_same}
use Rattle.jsonpath_nodes.proofs.step.DistinctLemmas.{distinct_filter}
use Rattle.jsonpath_nodes.proofs.step.SeparateLemmas.{below_has_no_repeat, step_has_no_repeat, every_has_no_repeat, child_has_no_repeat}
use Rattle.jsonpath_nodes.proofs.laws.steps_lead_without_repeats.Goals as goal

pub returns-clause-below : goal.returns-clause-below
returns-clause-below c = below_has_no_repeat

pub returns-clause-step : goal.returns-clause-step
returns-clause-step c = step_has_no_repeat

pub returns-clause-kept : goal.returns-clause-kept
returns-clause-kept c = distinct_filter is_same

pub returns-clause-every : goal.returns-clause-every
returns-clause-every c = every_has_no_repeat

pub returns-clause-child : goal.returns-clause-child
returns-clause-child c = child_has_no_repeat
