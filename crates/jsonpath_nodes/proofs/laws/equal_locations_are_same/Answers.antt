use Rattle.jsonpath_nodes.proofs.step.OnceLemmas.{location_same}
use Rattle.jsonpath_nodes.proofs.laws.equal_locations_are_same.Goals as goal

pub returns : goal.returns
returns c = location_same
