use Rattle.jsonpath_nodes.specs.document.OfData.{value_document}
use Rattle.jsonpath_nodes.specs.place.SpotPlace.{key_bytes}
use Rattle.jsonpath_nodes.proofs.place.OrderedSpotLemmas.{locations-StandAt}
use Rattle.jsonpath_nodes.proofs.laws.spots_show_their_locations.Goals as goal

pub returns : goal.returns
returns c = λ doc ls spots stand. locations-StandAt key_bytes (λ v. value_document v.now) doc ls spots stand
