use Rattle.jsonpath_select.proofs.answer.OneSelectionLemmas.{one_list_of_locations, one_list_of_values, one_list_of_sights}
use Rattle.jsonpath_select.proofs.laws.one_selection_per_text.Goals as goal

pub returns-clause-locations : goal.returns-clause-locations
returns-clause-locations c = one_list_of_locations c.one_tree_per_text.ensures

pub returns-clause-values : goal.returns-clause-values
returns-clause-values c = one_list_of_values c.one_tree_per_text.ensures

pub returns-clause-spots : goal.returns-clause-spots
returns-clause-spots c = one_list_of_sights c.one_tree_per_text.ensures
