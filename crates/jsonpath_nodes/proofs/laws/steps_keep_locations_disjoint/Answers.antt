use Rattle.jsonpath_nodes.specs.step.Separate.{in_one_branch}
use Rattle.jsonpath_nodes.proofs.step.DistinctLemmas.{distinct_filter}
use Rattle.jsonpath_nodes.proofs.step.DisjointLemmas.{level_stands_disjoint, disjoint_stands_apart, below_disjoint_has_no_repeat, step_stands_disjoint, candidates_stand_disjoint}
use Rattle.jsonpath_nodes.proofs.laws.steps_keep_locations_disjoint.Goals as goal

pub returns-clause-level : goal.returns-clause-level
returns-clause-level c = level_stands_disjoint

pub returns-clause-apart : goal.returns-clause-apart
returns-clause-apart c = disjoint_stands_apart

pub returns-clause-below : goal.returns-clause-below
returns-clause-below c = below_disjoint_has_no_repeat

pub returns-clause-step : goal.returns-clause-step
returns-clause-step c = step_stands_disjoint

pub returns-clause-kept : goal.returns-clause-kept
returns-clause-kept c = distinct_filter in_one_branch

pub returns-clause-candidates : goal.returns-clause-candidates
returns-clause-candidates c = candidates_stand_disjoint
