use Rattle.std.proofs.Common.{◌≡◌, length, sym, ap, ◌∙◌, arith}
use Rattle.std.specs.Vec.{vec_len}
use Rattle.json.specs.Value.{members_view}
use Rattle.json_trees.proofs.OrderLemmas.{object_as_it_stands}
use Rattle.json_trees.proofs.PlacesLemmas.{count_enumerated, places_as_they_stand}
use Rattle.json_trees.proofs.ordered_tree.handle.OrderedMembers.len.Goals as goal

pub returns-in-AsItStands : goal.returns-in-AsItStands
returns-in-AsItStands c =
    let xs = c.args.self.members.now.items in
    let ms = members_view xs in
    let count : vec_len c.args.self.members.now ≡ length xs = omega (arith, c.args.self.members.now.ok.0) in
    c.len-in-AsItStands.ensures ∙ count ∙ sym (ap length (places_as_they_stand ms (object_as_it_stands c.args.self.order.now ms c.in-AsItStands.is c.args.self.ordered).0) ∙ count_enumerated 0 xs)
