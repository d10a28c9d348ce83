-- The members of an object or items of an array on lines, and the length of a value.
use Rattle.std.specs.Prelude.{ℕ, ◌+◌, Bool, if◌then◌else◌, List, [], ◌∷◌, ◌++◌, flat_map, length, Option, Some, None, chars}
use Rattle.std.specs.Fmt.{decimal}
use Rattle.json.specs.Json.{Json, null, boolean, number, string, array, object, Items, no_items, item, Members, no_members, member}
use Rattle.jpath_texts.specs.AtDepth.{arranged}
use Rattle.jpath_texts.specs.Lines.{on_line, with_members_kept}
use Rattle.jpath_texts.specs.NamesOnce.{names_once}
use Rattle.jpath_texts.specs.declared.output.look.Look.{Look}
use Rattle.jpath_texts.specs.declared.output.match_line.Line.{Line}

-- ---- members and items

-- items, each behind its index
abbrev pub entries_of_items : ℕ → Items → List (Json × Json)
entries_of_items n no_items = []
entries_of_items n (item j js) = (number (decimal n), j) ∷ entries_of_items (n + 1) js

-- members, each value behind its name
abbrev pub entries_of_members : Members → List (Json × Json)
entries_of_members no_members = []
entries_of_members (member k j ms) = (string k, j) ∷ entries_of_members ms

-- the members or items of a value; of other values none
abbrev pub entries : Json → List (Json × Json)
entries null = []
entries (boolean b) = []
entries (number n) = []
entries (string s) = []
entries (array js) = entries_of_items 0 js
entries (object ms) = entries_of_members ms

-- ---- their lines

-- a tab and the value, where values are wanted
abbrev pub behind_key : Bool → Look → Json → List ℕ
behind_key has_values look j = if has_values then 9 ∷ with_members_kept look j else []

-- a name or index, and the value where values are wanted
abbrev pub entry_line : Bool → Line → Json × Json → List ℕ
entry_line has_values line e = on_line line (with_members_kept line.look e.0 ++ behind_key has_values line.look e.1)

abbrev pub lines_of_entries : Bool → Line → List (Json × Json) → List ℕ
lines_of_entries has_values line es = flat_map (entry_line has_values line) es

-- the lines of a value's members or items, each name once
abbrev pub entry_lines : Bool → Line → Json → List ℕ
entry_lines has_values line j = lines_of_entries has_values line (entries (arranged line.look.is_sorted j))

-- ---- lengths

-- how many characters a text has, and how many items or members a value, each name once
abbrev pub length_of : Json → Option ℕ
length_of null = None
length_of (boolean b) = None
length_of (number n) = None
length_of (string s) = Some (length (chars s))
length_of (array js) = Some (length (entries_of_items 0 js))
length_of (object ms) = Some (length (entries (names_once (object ms))))

-- a length as a value
abbrev pub length_value : Option ℕ → Json
length_value None = null
length_value (Some n) = number (decimal n)
