use Rattle.jsonpath_nodes.proofs.update.RunLemmas.{each_runs}
use Rattle.jsonpath_nodes.proofs.laws.updates_put_one_answer_in_turn.Goals as goal

pub returns : goal.returns
returns g c = λ answer always ls before after f h run. each_runs _ answer (λ p x r q called. always p q x r called) ls before f h after run
