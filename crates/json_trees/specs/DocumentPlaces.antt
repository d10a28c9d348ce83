-- What stands where in an exact tree, and in its document.
use Rattle.std.specs.Prelude.{◌≡◌, option_map}
use Rattle.json.specs.Json.{Json}
use Rattle.jsonpath_nodes.specs.place.Location.{Location, at}
use Rattle.json_trees.specs.ExactAt.{exact_at}
use Rattle.json_trees.specs.ExactDocument.{exact_document}

-- Where something stands in the tree, its document stands in the tree's document, and nothing where nothing stands.
abbrev pub DocumentStandsAt : Json → Location → Type 0
DocumentStandsAt j l = at (exact_document j) l ≡ option_map exact_document (exact_at j l)
