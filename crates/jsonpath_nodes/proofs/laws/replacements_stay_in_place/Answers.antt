use Rattle.jsonpath_nodes.proofs.update.ApartLemmas.{run_apart, run_placed}
use Rattle.jsonpath_nodes.proofs.laws.replacements_stay_in_place.Goals as goal

pub returns : goal.returns
returns c = λ ls before pairs after apart answered run. (run_placed ls before pairs after apart answered run, λ m h. run_apart m ls before pairs after h answered run)
