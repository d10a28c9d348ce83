use Rattle.std.proofs.Common.{◌≡◌, ◌++◌, Bool, map, drop}
use Rattle.std.specs.List.{list_any}
use Rattle.jsonpath_nodes.specs.place.Location.{Location, is_same}
use Rattle.jsonpath_nodes.specs.place.NumbersWhere.{numbers_where}
use Rattle.jsonpath_nodes.specs.place.Order.{once_in_order}
use Rattle.jsonpath_nodes.specs.place.SpotPlace.{place_location}
use Rattle.jsonpath_nodes.proofs.place.document_order.indexes_standing_among.Given as goal

abbrev pub invariant-loop-number : goal.invariant-loop-number
invariant-loop-number g l =
    let test : Location → Bool = λ m. list_any (is_same m) (once_in_order (map (place_location g.T.Name.Name.bytes) l.others)) in
    l.numbers.items ++ numbers_where test l.number (drop l.number (map (place_location g.T.Name.Name.bytes) l.spots)) ≡ numbers_where test 0 (map (place_location g.T.Name.Name.bytes) l.spots)
