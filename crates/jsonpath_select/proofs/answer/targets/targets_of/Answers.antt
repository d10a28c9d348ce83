use Rattle.std.proofs.Common.{List, map, ap, ◌∙◌}
use Rattle.jsonpath_nodes.specs.document.OfData.{value_document}
use Rattle.jsonpath_nodes.specs.place.Order.{once_in_order}
use Rattle.jsonpath_nodes.specs.place.SpotPlace.{location_of}
use Rattle.jsonpath_nodes.specs.place.SpotPlace.{Spot}
use Rattle.jsonpath_select.proofs.answer.TargetLemmas.{targets_are}
use Rattle.jsonpath_select.proofs.answer.targets.targets_of.Goals as goal

pub returns-clause-ok : goal.returns-clause-ok
returns-clause-ok c =
    targets_are c.spots_show_their_locations.ensures c.args.path.text.now (value_document c.args.value.now) c.in_ok-spots.spots.items _ c.in_ok-spots.ensures
    (c.in_ok-found.ensures.once ∙ ap (λ (spots : List Spot). once_in_order (map location_of spots)) c.as_slice.ensures.value)
