use Rattle.std.proofs.Common.{◌≡◌, [], ◌∷◌, None, codes, refl, ap, ◌∙◌}
use Rattle.jsonpath_nodes.specs.document.OfData.{value_document}
use Rattle.jsonpath_nodes.specs.place.Location.{Location, name, at}
use Rattle.jsonpath_nodes.specs.update.Update.{target, update}
use Rattle.jsonpath_uses.proofs.RemovedLemmas.{taken_member}
use Rattle.jsonpath_uses.proofs.changes.remove_price_twice.Goals as goal

abbrev price : Location
price = name (codes "price") ∷ []

pub returns : goal.returns
returns c =
    let doc = value_document c.args.json.now in
    let mid = value_document c.remove_in.new.value in
    let after = value_document c.remove_in-2.new.value in
    let text = c.in_ok-path.ensures.text in
    let once : mid ≡ update price None doc =
    c.deletes_and_removes_selected_location.ensures.removes (codes "$.price") doc mid price (c.dotted_names_select_one_location.ensures doc (codes "price" ∷ []) refl) (rw text at c.in_ok-remove_in.ensures.ok) in
    let twice : after ≡ update price None mid =
    c.deletes_and_removes_selected_location.ensures.removes (codes "$.price") mid after price (c.dotted_names_select_one_location.ensures mid (codes "price" ∷ []) refl) (rw text at c.in_ok-remove_in-2.ensures.ok) in
    let gone : target price mid ≡ None = ap (λ d. at d price) once ∙ taken_member (codes "price") doc c.value_is_document.ensures in
    twice ∙ c.putting_at_one_location.ensures.nowhere None price mid gone ∙ once
