-- The text of a location: a path that selects just what stands there, as `$['store']['book'][0]`.
use Rattle.std.specs.Prelude.{ℕ, ◌==◌, ◌||◌, List, [], ◌∷◌, ◌++◌, flat_map, codes, if◌then◌else◌}
use Rattle.std.specs.Fmt.{decimal}
use Rattle.std.specs.Str.{chars, encode_utf8_all}
use Rattle.jsonpath_paths.specs.text.Characters.{backslash, single_quote}
use Rattle.jsonpath_nodes.specs.place.Location.{Step, name, index, Location}

-- a character of a name between single quotes: a backslash guards each single quote and each backslash
abbrev pub guarded_char : ℕ → List ℕ
guarded_char c = if c == single_quote || c == backslash then backslash ∷ c ∷ [] else c ∷ []

abbrev pub guarded : List ℕ → List ℕ
guarded cs = flat_map guarded_char cs

-- a step by its characters
abbrev pub step_chars : Step → List ℕ
step_chars (name k) = codes "['" ++ guarded (chars k) ++ codes "']"
step_chars (index i) = codes "[" ++ decimal i ++ codes "]"

abbrev pub steps_chars : Location → List ℕ
steps_chars l = flat_map step_chars l

abbrev pub location_chars : Location → List ℕ
location_chars l = codes "$" ++ steps_chars l

-- its bytes
abbrev pub location_text : Location → List ℕ
location_text l = encode_utf8_all (location_chars l)
