use Rattle.std.proofs.Common.{◌≡◌, [], length, ap, arith}
use Rattle.jsonpath_nodes.specs.place.SpotPlace.{key_bytes, path_location}
use Rattle.jsonpath_nodes.proofs.place.spot.Steps.len.Goals as goal

pub returns : goal.returns
returns c =
    let none : path_location key_bytes c.loop-before.rest ≡ [] = c.in_default.ensures.root in
    omega (arith, ap length none, c.loop-before.invariant.count, c.loop-before.invariant.within)
