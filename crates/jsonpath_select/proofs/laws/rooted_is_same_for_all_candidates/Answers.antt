use Rattle.jsonpath_select.proofs.answer.RootedLemmas.{rooted_term_is_fixed, rooted_holds_alike, rooted_keeps_all_or_none}
use Rattle.jsonpath_select.proofs.laws.rooted_is_same_for_all_candidates.Goals as goal

pub returns-clause-term : goal.returns-clause-term
returns-clause-term c = rooted_term_is_fixed

pub returns-clause-condition : goal.returns-clause-condition
returns-clause-condition c = rooted_holds_alike

pub returns-clause-kept : goal.returns-clause-kept
returns-clause-kept c = rooted_keeps_all_or_none
