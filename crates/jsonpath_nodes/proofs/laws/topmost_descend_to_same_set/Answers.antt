use Rattle.jsonpath_nodes.proofs.step.TopmostOneLemmas.{below_of_the_topmost, topmost_descend_to_same_set}
use Rattle.jsonpath_nodes.proofs.laws.topmost_descend_to_same_set.Goals as goal

pub returns-clause-below : goal.returns-clause-below
returns-clause-below c = below_of_the_topmost

pub returns-clause-step : goal.returns-clause-step
returns-clause-step c = topmost_descend_to_same_set
