use Rattle.jsonpath_select.proofs.comparison.ExtremeLemmas.{extremes_and_sets_decide_pairs}
use Rattle.jsonpath_select.proofs.laws.extremes_and_sets_decide_pairs.Goals as goal

pub returns : goal.returns
returns c = extremes_and_sets_decide_pairs
