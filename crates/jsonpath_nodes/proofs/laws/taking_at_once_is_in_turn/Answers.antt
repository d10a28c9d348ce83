use Rattle.jsonpath_nodes.proofs.update.TakenLemmas.{each_taken}
use Rattle.jsonpath_nodes.proofs.laws.taking_at_once_is_in_turn.Goals as goal

pub returns : goal.returns
returns c = λ doc ls h. each_taken ls doc h
