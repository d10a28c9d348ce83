-- Looking into a document.
use Rattle.std.specs.Prelude.{ℕ, zero, suc, List, Option, Some, None}
use Rattle.std.specs.Ordering.{nat_cmp, match_ordering}
use Rattle.std.specs.Cmp.Lexicographic.{slice_cmp}
use Rattle.jsonpath_nodes.specs.document.Document.{Document, null, boolean, number, string, array, object, Items, no_items, item, Members, no_members, member}

-- the value of a name; in an ordered document each object has a name once
abbrev pub get_member : List ℕ → Members → Option Document
get_member k no_members = None
get_member k (member l e ms) = match_ordering (slice_cmp nat_cmp k l) (get_member k ms) (Some e) (get_member k ms)

abbrev pub get_item : ℕ → Items → Option Document
get_item n no_items = None
get_item zero (item d ds) = Some d
get_item (suc n) (item d ds) = get_item n ds

-- the member of an object
abbrev pub get : List ℕ → Document → Option Document
get k null = None
get k (boolean b) = None
get k (number n) = None
get k (string s) = None
get k (array ds) = None
get k (object ms) = get_member k ms

-- the item of an array
abbrev pub item_at : ℕ → Document → Option Document
item_at i null = None
item_at i (boolean b) = None
item_at i (number n) = None
item_at i (string s) = None
item_at i (array ds) = get_item i ds
item_at i (object ms) = None

abbrev pub as_array : Document → Option Items
as_array null = None
as_array (boolean b) = None
as_array (number n) = None
as_array (string s) = None
as_array (array ds) = Some ds
as_array (object ms) = None

abbrev pub as_object : Document → Option Members
as_object null = None
as_object (boolean b) = None
as_object (number n) = None
as_object (string s) = None
as_object (array ds) = None
as_object (object ms) = Some ms

abbrev pub items_len : Items → ℕ
items_len no_items = 0
items_len (item d ds) = suc (items_len ds)

abbrev pub members_len : Members → ℕ
members_len no_members = 0
members_len (member k d ms) = suc (members_len ms)
