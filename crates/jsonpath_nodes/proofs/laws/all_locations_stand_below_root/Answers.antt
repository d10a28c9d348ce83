use Rattle.jsonpath_nodes.proofs.place.CompleteLemmas.{all_locations_stand_below_root}
use Rattle.jsonpath_nodes.proofs.laws.all_locations_stand_below_root.Goals as goal

pub returns : goal.returns
returns c = all_locations_stand_below_root
