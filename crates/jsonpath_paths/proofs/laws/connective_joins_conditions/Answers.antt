use Rattle.jsonpath_paths.proofs.tree.JoinLemmas.{joins_sides}
use Rattle.jsonpath_paths.proofs.laws.connective_joins_conditions.Goals as goal

pub returns : goal.returns
returns c = joins_sides
