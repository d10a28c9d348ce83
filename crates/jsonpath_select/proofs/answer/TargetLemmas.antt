-- The targets of a path, by a set of spots at what it selects.
use Rattle.std.proofs.Common.{◌≡◌, ℕ, List, map, ap, ◌∙◌}
use Rattle.jsonpath_nodes.specs.document.Document.{Document}
use Rattle.jsonpath_nodes.specs.place.Location.{Location}
use Rattle.jsonpath_nodes.specs.place.Order.{once_in_order}
use Rattle.jsonpath_nodes.specs.place.SpotPlace.{StandAt, location_of}
use Rattle.jsonpath_nodes.specs.place.SpotPlace.{Spot}
use Rattle.jsonpath_select.specs.Meaning.{SelectsSet}
use Rattle.jsonpath_select.specs.Targets.{AreTargets}

-- a set of spots gives the targets
pub targets_are : ((doc : Document) (ls : List Location) (spots : List Spot) → StandAt doc ls spots → map location_of spots ≡ ls) → (text : List ℕ) (doc : Document) (spots : List Spot) (found : List Location)
    → SelectsSet text doc spots → found ≡ once_in_order (map location_of spots) → AreTargets text doc found
targets_are shown text doc spots found selected once =
    let at = selected.holds in
    record { path = selected.path; spelled = selected.spelled; holds = once ∙ ap once_in_order (shown doc at.0 spots at.1) ∙ at.2 }
