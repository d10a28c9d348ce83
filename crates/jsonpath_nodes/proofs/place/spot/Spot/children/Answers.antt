use Rattle.std.proofs.Common.{List, ◌++◌, map, ap, ◌∙◌}
use Rattle.jsonpath_nodes.specs.place.SpotPlace.{Spot, location_of, value_of, look_from, sight_of}
use Rattle.jsonpath_nodes.specs.step.Steps.{single_steps, every}
use Rattle.jsonpath_nodes.proofs.place.KeptLemmas.{leads}
use Rattle.jsonpath_nodes.proofs.place.spot.Spot.children.Goals as goal

pub returns : goal.returns
returns c =
    let self = c.args.self.now in
    leads (single_steps every) self c.add_selected_children.new.out.items
    (c.in_ok-add_selected_children.ensures ∙ ap (λ (ss : List Spot). map sight_of ss ++ map (look_from (location_of self) (value_of self)) (single_steps every (value_of self))) c.new-found.ensures.items)
