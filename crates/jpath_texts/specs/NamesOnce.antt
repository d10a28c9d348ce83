-- A value with each name once in its objects.
use Rattle.std.specs.Prelude.{ℕ, List, if◌then◌else◌}
use Rattle.std.specs.Str.{bytes_eq}
use Rattle.json.specs.Json.{Json, null, boolean, number, string, array, object, Items, no_items, item, Members, no_members, member}

-- a member behind others, or its value in the place of the one of its name
abbrev pub put_member : List ℕ → Json → Members → Members
put_member k j no_members = member k j no_members
put_member k j (member l i ms) = if bytes_eq k l then member l j ms else member l i (put_member k j ms)

-- members one after another behind others
abbrev pub put_members : Members → Members → Members
put_members before no_members = before
put_members before (member k j ms) = put_members (put_member k j before) ms

-- each name once, at its first place, with its last value
abbrev pub each_name_once : Members → Members
each_name_once ms = put_members no_members ms

-- the same in a whole value
abbrev mutual
  pub names_once : Json → Json
  names_once null = null
  names_once (boolean b) = boolean b
  names_once (number n) = number n
  names_once (string s) = string s
  names_once (array js) = array (items_once js)
  names_once (object ms) = object (each_name_once (members_once ms))

  pub items_once : Items → Items
  items_once no_items = no_items
  items_once (item j js) = item (names_once j) (items_once js)

  pub members_once : Members → Members
  members_once no_members = no_members
  members_once (member k j ms) = member k (names_once j) (members_once ms)
