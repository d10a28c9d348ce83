use Rattle.std.proofs.Common.{true, subst, sym}
use Rattle.jsonpath_nodes.specs.place.Mark.{MarksStandAt}
use Rattle.jsonpath_nodes.specs.place.Order.{once_in_order}
use Rattle.jsonpath_nodes.specs.place.SpotPlace.{place_location, place_value}
use Rattle.jsonpath_lib.proofs.update.several_paths.once_if_many.Goals as goal

pub returns : goal.returns
returns g c = λ doc ls stand. (once_in_order ls, c.in_ok-once.ensures doc ls (subst (λ nodes. MarksStandAt true (place_location g.T.Name.Name.bytes) (place_value g.T.Tree.content) doc ls nodes) (sym c.as_slice-2.ensures.value) stand), c.locations_once_in_order_ascend.ensures.members ls)
