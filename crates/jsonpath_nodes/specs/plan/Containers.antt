-- Values that hold other values.
use Rattle.std.specs.Prelude.{Bool, false, ◌||◌, is_some, List, []}
use Rattle.jsonpath_nodes.specs.document.Document.{Document, null, boolean, number, string, array, object, Members, no_members, member}
use Rattle.jsonpath_nodes.specs.document.Find.{as_array, as_object}
use Rattle.jsonpath_nodes.specs.place.Location.{Location, below_items, below_members}

-- an array or an object, be it empty
abbrev pub is_container : Document → Bool
is_container d = is_some (as_array d) || is_some (as_object d)

abbrev pub some_container : Members → Bool
some_container no_members = false
some_container (member k d ms) = is_container d || some_container ms

-- all that is below a value, each value before its children
abbrev pub descendants : Document → List Location
descendants null = []
descendants (boolean b) = []
descendants (number n) = []
descendants (string s) = []
descendants (array ds) = below_items 0 ds
descendants (object ms) = below_members ms
