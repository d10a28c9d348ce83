use Rattle.std.proofs.Common.{List, ap₂, ◌∙◌}
use Rattle.std.specs.List.{list_any}
use Rattle.jsonpath_nodes.specs.place.Location.{Location, is_same}
use Rattle.jsonpath_nodes.specs.place.NumbersWhere.{numbers_where}
use Rattle.jsonpath_nodes.specs.place.Order.{once_in_order}
use Rattle.jsonpath_nodes.proofs.place.OrderedSpotLemmas.{locations-StandAt}
use Rattle.jsonpath_nodes.proofs.place.carried.TreeNodeCarried.indexes_standing_among.Goals as goal

pub returns : goal.returns
returns g c = λ doc ls ms here others.
    let where_at = locations-StandAt g.T.Name.Name.bytes g.T.Tree.content doc in
    c.in_ok-indexes_standing_among.ensures
    ∙ ap₂ (λ (xs ys : List Location). numbers_where (λ l. list_any (is_same l) (once_in_order xs)) 0 ys) (where_at ms c.args.others.now others) (where_at ls c.args.marks.now here)
