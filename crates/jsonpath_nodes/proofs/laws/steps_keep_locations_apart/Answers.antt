use Rattle.jsonpath_nodes.specs.step.Separate.{in_one_array}
use Rattle.jsonpath_nodes.proofs.step.DistinctLemmas.{distinct_filter}
use Rattle.jsonpath_nodes.proofs.step.SeparateLemmas.{names_stand_apart, lists_stand_apart, step_stands_apart, descent_stands_apart, index_stands_apart, range_stands_apart}
use Rattle.jsonpath_nodes.proofs.laws.steps_keep_locations_apart.Goals as goal

pub returns-clause-named : goal.returns-clause-named
returns-clause-named c = names_stand_apart

pub returns-clause-descent : goal.returns-clause-descent
returns-clause-descent c = descent_stands_apart

pub returns-clause-nth : goal.returns-clause-nth
returns-clause-nth c = index_stands_apart

pub returns-clause-range : goal.returns-clause-range
returns-clause-range c = range_stands_apart

pub returns-clause-kept : goal.returns-clause-kept
returns-clause-kept c = distinct_filter in_one_array

pub returns-clause-lists : goal.returns-clause-lists
returns-clause-lists c = lists_stand_apart

pub returns-clause-step : goal.returns-clause-step
returns-clause-step c = step_stands_apart
