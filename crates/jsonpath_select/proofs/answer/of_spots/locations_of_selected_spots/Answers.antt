use Rattle.std.proofs.Common.{◌≡◌, ◌≤◌, ◌++◌, map, List, length, sym, ap, ◌∙◌, append-nil, drop_of_length-le, arith}
use Rattle.jsonpath_nodes.specs.place.SpotPlace.{location_of}
use Rattle.jsonpath_nodes.specs.place.SpotPlace.{Spot}
use Rattle.jsonpath_select.specs.Meaning.{sel}
use Rattle.jsonpath_select.proofs.answer.of_spots.locations_of_selected_spots.Goals as goal

pub returns-clause-ok : goal.returns-clause-ok
returns-clause-ok c = λ text doc selects.
    let spots = c.args.spots.now in
    let found = c.loop-spot.found.items in
    let past : length spots ≤ c.loop-spot.spot-index = omega arith in
    let none = drop_of_length-le spots {i = c.loop-spot.spot-index} past in
    let same : found ≡ map location_of spots = sym (append-nil found) ∙ ap (λ (ss : List Spot). found ++ map location_of ss) (sym none) ∙ c.loop-spot.invariant in
    record {
      path = selects.path;
      spelled = selects.spelled;
      holds = same ∙ c.spots_show_their_locations.ensures doc (sel text doc selects.path) spots selects.holds;
    }
