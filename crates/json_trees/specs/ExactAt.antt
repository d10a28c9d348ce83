-- What stands where in the exact tree of a text.
use Rattle.std.specs.Prelude.{ℕ, List, [], ◌∷◌, if◌then◌else◌, Option, Some, option_and_then}
use Rattle.std.specs.Option.{option_to_list}
use Rattle.std.specs.Str.{bytes_eq}
use Rattle.json.specs.Json.{Json, null, boolean, number, string, array, object, Members, no_members, member}
use Rattle.json.specs.Find.{get, at as item_at}
use Rattle.jsonpath_nodes.specs.place.Location.{Step, name, index, Location}

-- the value that one step leads to: a name to the last member of that name, an index to that item
abbrev pub exact_child : Step → Json → Option Json
exact_child (name k) j = get k j
exact_child (index i) j = item_at i j

-- the value at a location, if there is one
abbrev pub exact_at : Json → Location → Option Json
exact_at j [] = Some j
exact_at j (s ∷ l) = option_and_then (λ c. exact_at c l) (exact_child s j)

-- the values of the members of a name, which may come again
abbrev pub values_named : List ℕ → Members → List Json
values_named key no_members = []
values_named key (member k j ms) = if bytes_eq k key then j ∷ values_named key ms else values_named key ms

-- the values that a step leads to: that item, or each member of that name
abbrev pub values_by : Step → Json → List Json
values_by (name k) null = []
values_by (name k) (boolean b) = []
values_by (name k) (number s) = []
values_by (name k) (string s) = []
values_by (name k) (array js) = []
values_by (name k) (object ms) = values_named k ms
values_by (index i) j = option_to_list (item_at i j)
