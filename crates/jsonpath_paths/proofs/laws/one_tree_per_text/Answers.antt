use Rattle.jsonpath_paths.proofs.parser.DerivationLemmas as derivations
use Rattle.jsonpath_paths.proofs.token.TokenizedLemmas.{found_spelled}
use Rattle.jsonpath_paths.proofs.laws.one_tree_per_text.Goals as goal

pub returns : goal.returns
returns c = λ text p q a b. derivations.one_tree_per_text text _ p q (found_spelled text p a).1 (found_spelled text q b).1
