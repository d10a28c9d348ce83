use Rattle.std.proofs.Common.{true, arith}
use Rattle.jsonpath_nodes.specs.place.Location.{below}
use Rattle.jsonpath_nodes.specs.place.SpotPlace.{location_of, value_of}
use Rattle.jsonpath_nodes.proofs.place.KeptLemmas.{marks_lead}
use Rattle.jsonpath_nodes.proofs.step.value_walker.ValueWalker.below.Goals as goal

pub returns : goal.returns
returns c = marks_lead true location_of value_of below c.loop-spot.spot-index c.args.spots.now c.loop-spot.found.items (omega arith) c.loop-spot.invariant
