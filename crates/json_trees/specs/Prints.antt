-- What the printing of documents adds to a list of tokens, and which texts it gives.
use Rattle.std.specs.Prelude.{codes, ◌≡◌, ℕ, List, [], ◌∷◌, ◌++◌, map, Bool, true, false, Option, Some, None}
use Rattle.std.specs.Float.{nan}
use Rattle.std.specs.List.{join_with_byte, list_any}
use Rattle.json.specs.Token.{Token}
use Rattle.json.specs.Tree.{json_tokens, items_tokens, members_tokens}
use Rattle.serde_json.specs.Data as kept
use Rattle.serde_json.specs.Written.{outline, items_outline, members_outline, has_float, items_have_float, members_have_float, compact_text}
use Rattle.jsonpath_nodes.specs.document.Document.{Number, read, written, refused, Document, null, boolean, number, string, array, object, Items, no_items, item, Members, no_members, member}
use Rattle.jsonpath_nodes.specs.document.OfData.{document_of}

-- the number that was read; where none was, a float, which has no text
abbrev pub num_of : Number → kept.Num
num_of (read n) = n
num_of (written s) = kept.float nan
num_of (refused s) = kept.float nan

-- the data of which this is the document
abbrev mutual
  pub data_of : Document → kept.Data
  data_of null = kept.null
  data_of (boolean b) = kept.boolean b
  data_of (number n) = kept.number (num_of n)
  data_of (string s) = kept.string s
  data_of (array ds) = kept.array (items_data ds)
  data_of (object ms) = kept.object (members_data ms)

  pub items_data : Items → kept.Items
  items_data no_items = kept.no_items
  items_data (item d ds) = kept.item (data_of d) (items_data ds)

  pub members_data : Members → kept.Members
  members_data no_members = kept.no_members
  members_data (member k d ms) = kept.member k (data_of d) (members_data ms)

-- a number in the document is no whole number of 64 bits
abbrev pub is_unread : Document → Bool
is_unread d = has_float (data_of d)

abbrev pub holds_unread : Option Document → Bool
holds_unread None = false
holds_unread (Some d) = is_unread d

abbrev pub are_items_unread : Items → Bool
are_items_unread ds = items_have_float (items_data ds)

abbrev pub are_members_unread : Members → Bool
are_members_unread ms = members_have_float (members_data ms)

-- the tokens of the document; of an item and of a member, unless there is none; of items, with the bracket that closes, and of members, with the brace that closes
abbrev pub printed : Document → List Token
printed d = json_tokens (outline (data_of d))

abbrev pub printed_item : Option Document → List Token
printed_item None = []
printed_item (Some d) = printed d

abbrev pub printed_member : List ℕ → Option Document → List Token
printed_member k None = []
printed_member k (Some d) = Token.key k ∷ printed d

abbrev pub printed_items : Items → List Token
printed_items ds = items_tokens (items_outline (items_data ds))

abbrev pub printed_members : Members → List Token
printed_members ms = members_tokens (members_outline (members_data ms))

-- no number was unread, and these tokens were added
abbrev pub Adds : Bool → List Token → List Token → List Token → Type 0
Adds unread ts old new = (unread ≡ false) × (new ≡ old ++ ts)

abbrev pub Prints : Document → List Token → List Token → Type 0
Prints d = Adds (is_unread d) (printed d)

abbrev pub PrintsItem : Option Document → List Token → List Token → Type 0
PrintsItem d = Adds (holds_unread d) (printed_item d)

abbrev pub PrintsMember : List ℕ → Option Document → List Token → List Token → Type 0
PrintsMember k d = Adds (holds_unread d) (printed_member k d)

abbrev pub PrintsItems : Items → List Token → List Token → Type 0
PrintsItems ds = Adds (are_items_unread ds) (printed_items ds)

abbrev pub PrintsMembers : Members → List Token → List Token → Type 0
PrintsMembers ms = Adds (are_members_unread ms) (printed_members ms)

-- if the document is that of data, a number in it is unread
abbrev pub IsUnread : Document → Type 0
IsUnread doc = (d : kept.Data) → document_of d ≡ doc → has_float d ≡ true

-- if the document is that of data, the text is the compact one of it, in which no number is unread
abbrev pub IsCompactText : Document → List ℕ → Type 0
IsCompactText doc text = (d : kept.Data) → document_of d ≡ doc → (has_float d ≡ false) × (text ≡ compact_text d)

-- the same of a list: its values' compact texts in brackets, with commas between them
abbrev pub IsUnreadList : List Document → Type 0
IsUnreadList docs = (ds : List kept.Data) → map document_of ds ≡ docs → list_any has_float ds ≡ true

abbrev pub IsCompactListText : List Document → List ℕ → Type 0
IsCompactListText docs text = (ds : List kept.Data) → map document_of ds ≡ docs → (list_any has_float ds ≡ false) × (text ≡ codes "[" ++ (join_with_byte 44 (map compact_text ds) ++ codes "]"))
