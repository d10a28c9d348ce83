use Rattle.jsonpath_nodes.proofs.step.SameMemberLemmas.{step_of_a_set, below_of_a_set, candidates_of_a_set, filter-same, any_same, joined_sets, each_once_keeps_members}
use Rattle.jsonpath_nodes.proofs.step.TopmostOneLemmas.{one_list_of_a_set}
use Rattle.jsonpath_nodes.proofs.laws.steps_ignore_order_and_repeats.Goals as goal

pub returns-clause-step : goal.returns-clause-step
returns-clause-step c = step_of_a_set

pub returns-clause-below : goal.returns-clause-below
returns-clause-below c = below_of_a_set

pub returns-clause-candidates : goal.returns-clause-candidates
returns-clause-candidates c = candidates_of_a_set

pub returns-clause-each_once : goal.returns-clause-each_once
returns-clause-each_once c = each_once_keeps_members

pub returns-clause-one_list : goal.returns-clause-one_list
returns-clause-one_list c = one_list_of_a_set

pub returns-clause-kept : goal.returns-clause-kept
returns-clause-kept c = filter-same

pub returns-clause-some : goal.returns-clause-some
returns-clause-some c = any_same

pub returns-clause-joined : goal.returns-clause-joined
returns-clause-joined c = joined_sets
