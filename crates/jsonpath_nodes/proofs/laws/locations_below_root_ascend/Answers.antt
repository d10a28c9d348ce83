use Rattle.jsonpath_nodes.proofs.place.AscendsLemmas.{locations_below_root_ascend}
use Rattle.jsonpath_nodes.proofs.laws.locations_below_root_ascend.Goals as goal

pub returns : goal.returns
returns c = locations_below_root_ascend
