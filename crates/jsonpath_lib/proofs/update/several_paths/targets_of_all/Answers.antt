use Rattle.std.proofs.Common.{List, map, ap, ◌∙◌}
use Rattle.jsonpath_nodes.specs.place.Order.{once_in_order}
use Rattle.jsonpath_nodes.specs.place.SpotPlace.{location_of}
use Rattle.jsonpath_nodes.specs.place.SpotPlace.{Spot}
use Rattle.jsonpath_nodes.specs.document.OfData.{value_document}
use Rattle.jsonpath_lib.proofs.update.several_paths.targets_of_all.Goals as goal

pub returns-clause-ok : goal.returns-clause-ok
returns-clause-ok c =
    let all = c.in_ok-spots.ensures in
    let at = all.2 in
    record {
      all = all.0;
      selected = all.1;
      are = c.in_ok-found.ensures.once ∙ ap (λ (spots : List Spot). once_in_order (map location_of spots)) c.as_slice.ensures.value ∙ ap once_in_order (c.spots_show_their_locations.ensures (value_document c.args.value.now) at.0 c.in_ok-spots.spots.items at.1) ∙ at.2;
    }
