use Rattle.std.proofs.Common.{◌≡◌, [], ◌∷◌, ◌++◌, Some, sym, ap, ◌∙◌}
use Rattle.std.specs.Prelude.{pos}
use Rattle.jsonpath_nodes.specs.document.OfData.{value_document}
use Rattle.jsonpath_nodes.specs.place.Location.{Location, index}
use Rattle.jsonpath_nodes.specs.step.Steps.{single_steps, nth}
use Rattle.jsonpath_nodes.specs.place.SpotPlace.{key_bytes, location_of, value_of}
use Rattle.jsonpath_nodes.specs.place.SpotPlace.{Spot}
use Rattle.jsonpath_nodes.specs.declared.place.trail.Trail.{Item}
use Rattle.jsonpath_nodes.proofs.place.KeptLemmas.{leads}
use Rattle.jsonpath_nodes.proofs.step.SingleLemmas.{at-Item, nth_there, nth_nowhere}
use Rattle.jsonpath_nodes.proofs.place.spot.Spot.item.Goals as goal

pub returns-in_ok-here-in-Some : goal.returns-in_ok-here-in-Some
returns-in_ok-here-in-Some c =
    let self = c.args.self.now in
    let i = c.args.index in
    let spot : Spot = record { value = c.in-Some.item; trail = Item c.in_ok-here-in-Some.here i } in
    let where_at : location_of spot ≡ location_of self ++ index i ∷ [] =
    at-Item key_bytes c.in_ok-here-in-Some.here i ∙ ap (λ (l : Location). l ++ index i ∷ []) c.in_ok-here-in-Some.ensures in
    leads (single_steps (nth (pos i))) self (spot ∷ [])
    (ap (λ (l : Location). (l, Some (value_document c.in-Some.item.now)) ∷ []) where_at
    ∙ sym (nth_there i (location_of self) (value_of self) (value_document c.in-Some.item.now) (sym c.in-Some.ensures)))

pub returns-in-None : goal.returns-in-None
returns-in-None c =
    let self = c.args.self.now in
    let i = c.args.index in
    leads (single_steps (nth (pos i))) self [] (sym (nth_nowhere i (location_of self) (value_of self) (sym c.in-None.ensures)))
