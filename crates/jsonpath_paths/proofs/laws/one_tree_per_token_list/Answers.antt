use Rattle.jsonpath_paths.proofs.tree.DecodedLemmas.{one_list}
use Rattle.jsonpath_paths.proofs.laws.one_tree_per_token_list.Goals as goal

pub returns : goal.returns
returns c = one_list
