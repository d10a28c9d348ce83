use Rattle.jsonpath_nodes.proofs.step.SeparateLemmas.{apart_has_no_repeat_flat, one_is_apart, candidates_stand_apart, apart_has_no_repeat}
use Rattle.jsonpath_nodes.proofs.laws.apart_locations_meet_candidates_once.Goals as goal

pub returns-clause-once : goal.returns-clause-once
returns-clause-once c = apart_has_no_repeat_flat

pub returns-clause-one : goal.returns-clause-one
returns-clause-one c = one_is_apart

pub returns-clause-candidates : goal.returns-clause-candidates
returns-clause-candidates c = candidates_stand_apart

pub returns-clause-no_repeat : goal.returns-clause-no_repeat
returns-clause-no_repeat c = apart_has_no_repeat
