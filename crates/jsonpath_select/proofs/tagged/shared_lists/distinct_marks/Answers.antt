use Rattle.std.proofs.Common.{map, ap, ◌∙◌}
use Rattle.jsonpath_nodes.specs.place.Mark.{shown}
use Rattle.jsonpath_nodes.specs.place.Order.{once_in_order}
use Rattle.jsonpath_select.proofs.tagged.shared_lists.distinct_marks.Goals as goal

pub returns : goal.returns
returns g c = λ doc ls stand. c.in_ok-found.ensures doc (once_in_order ls) (c.in_ok-marks.ensures doc ls (ap (map (shown g.M.Mark.stand g.M.Mark.content)) c.as_slice.ensures.value ∙ stand))
