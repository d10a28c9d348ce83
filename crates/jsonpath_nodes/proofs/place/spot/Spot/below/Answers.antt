use Rattle.std.proofs.Common.{List, ◌++◌, map, ap, ◌∙◌}
use Rattle.jsonpath_nodes.specs.place.SpotPlace.{Spot, location_of, value_of, look_from, sight_of}
use Rattle.jsonpath_nodes.specs.place.Location.{below}
use Rattle.jsonpath_nodes.proofs.place.KeptLemmas.{leads}
use Rattle.jsonpath_nodes.proofs.place.spot.Spot.below.Goals as goal

pub returns : goal.returns
returns c =
    let self = c.args.self.now in
    leads below self c.add_all_below.new.out.items
    (c.in_ok-add_all_below.ensures ∙ ap (λ (ss : List Spot). map sight_of ss ++ map (look_from (location_of self) (value_of self)) (below (value_of self))) c.new-found.ensures.items)
