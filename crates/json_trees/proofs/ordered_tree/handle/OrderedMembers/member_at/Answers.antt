use Rattle.std.proofs.Common.{◌≡◌, ◌<◌, Some, option_and_then, length, sym, ap, ◌∙◌, arith}
use Rattle.std.proofs.lemmas.Option.{slice_get-get_or, slice_get_past}
use Rattle.std.specs.List.{slice_get}
use Rattle.json.specs.Json.{array}
use Rattle.json.specs.Value.{members_view}
use Rattle.json_trees.specs.TreeOrder.{is_order, values_of}
use Rattle.json_trees.specs.OrderedTree.{member_at}
use Rattle.json_trees.proofs.OrderLemmas.{object_as_it_stands, order_of_object, values_stand}
use Rattle.json_trees.proofs.PlacesLemmas.{taken_as_it_stands, taken_by_places}
use Rattle.json_trees.proofs.ordered_tree.handle.OrderedMembers.member_at.Goals as goal

pub returns-then-index-len : goal.returns-then-index-len
returns-then-index-len c =
    let ms = members_view c.args.self.members.now.items in
    let found = c.in-OfMembers.places in
    sym (taken_by_places ms found.items c.args.index (order_of_object c.args.self.order.now found c.in-OfMembers.values ms c.in-OfMembers.is c.args.self.ordered).0
    ∙ ap (option_and_then (λ p. member_at p ms)) (slice_get_past found.items c.args.index (omega (arith, found.ok.0))))

pub member_in_place-requires : goal.member_in_place-requires
member_in_place-requires c =
    let ms = members_view c.args.self.members.now.items in
    ap (λ o. is_order o (array (values_of ms))) c.deref.ensures ∙ (order_of_object c.args.self.order.now c.in-OfMembers.places c.in-OfMembers.values ms c.in-OfMembers.is c.args.self.ordered).1

pub member_in_place-requires-in-AsItStands : goal.member_in_place-requires-in-AsItStands
member_in_place-requires-in-AsItStands c =
    let ms = members_view c.args.self.members.now.items in
    let stands = object_as_it_stands c.args.self.order.now ms c.in-AsItStands.is c.args.self.ordered in
    values_stand c.args.self.order.now ms stands.1 stands.0

pub returns-else-index-len : goal.returns-else-index-len
returns-else-index-len c =
    let ms = members_view c.args.self.members.now.items in
    let found = c.in-OfMembers.places in
    let within : c.args.index < length found.items = omega (arith, found.ok.0) in
    let read : slice_get found.items c.args.index ≡ Some c.index.result.now = slice_get-get_or found.items c.args.index c.index.result.now within ∙ ap Some (sym c.index.ensures) in
    c.member_in_place.ensures ∙ sym (taken_by_places ms found.items c.args.index (order_of_object c.args.self.order.now found c.in-OfMembers.values ms c.in-OfMembers.is c.args.self.ordered).0 ∙ ap (option_and_then (λ p. member_at p ms)) read)

pub returns-in-AsItStands : goal.returns-in-AsItStands
returns-in-AsItStands c =
    let ms = members_view c.args.self.members.now.items in
    c.member_in_place-in-AsItStands.ensures ∙ sym (taken_as_it_stands ms c.args.index (object_as_it_stands c.args.self.order.now ms c.in-AsItStands.is c.args.self.ordered).0)
