use Rattle.json_trees.proofs.numbers.KeyLawLemmas.{one_key}
use Rattle.json_trees.proofs.laws.one_number_one_key.Goals as goal

pub returns : goal.returns
returns c = one_key
