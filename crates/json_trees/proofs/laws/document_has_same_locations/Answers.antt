use Rattle.json_trees.proofs.DocumentLemmas.{document_stands}
use Rattle.json_trees.proofs.laws.document_has_same_locations.Goals as goal

pub returns : goal.returns
returns c = document_stands
