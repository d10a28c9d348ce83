use Rattle.jsonpath_select.proofs.answer.BothOrderLemmas.{locations_in_both_orders, values_in_both_orders}
use Rattle.jsonpath_select.proofs.laws.swapped_condition_texts_select_alike.Goals as goal

pub returns-clause-locations : goal.returns-clause-locations
returns-clause-locations c = locations_in_both_orders c.one_tree_per_text.ensures c.connective_joins_conditions.ensures

pub returns-clause-values : goal.returns-clause-values
returns-clause-values c = values_in_both_orders c.one_tree_per_text.ensures c.connective_joins_conditions.ensures
