use Rattle.jsonpath_paths.proofs.tree.ViewLemmas.{path_of_roll}
use Rattle.jsonpath_paths.proofs.tree.parser_node.node_of_steps.Goals as goal

pub returns : goal.returns
returns c = path_of_roll _
