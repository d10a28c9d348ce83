-- The document that a text's tree is, and trees whose members stand in the order of their names, each name once.
use Rattle.std.specs.Prelude.{ℕ, zero, suc, ◌*◌, ◌^◌, ℤ, List, [], Bool, true, ◌&&◌, Option, Some, None, option_and_then}
use Rattle.std.specs.List.{slice_get}
use Rattle.std.specs.BTreeMap.{insert_entry}
use Rattle.std.specs.Float.Numeral.{scan_numeral, numeral_digits, tens_up, tens_down}
use Rattle.std.specs.Cmp.Lexicographic.{slice_cmp}
use Rattle.std.specs.Ordering.{nat_cmp, is_lt, match_ordering}
use Rattle.json.specs.Json as json
use Rattle.std.specs.Cow.{cow_str_bytes}
use Rattle.jsonpath_paths.specs.Numbers.{is_negative, without_minus, signed}
use Rattle.json_trees.specs.declared.numbers.exact_number.ExactNumber.{ExactNumber}
use Rattle.jsonpath_nodes.specs.document.Document.{written, Document, null, boolean, number, string, array, object, Items, no_items, item, Members, no_members, member}

-- the name is below that of the first of these members, if there are any
abbrev pub is_before : List ℕ → json.Members → Bool
is_before k json.no_members = true
is_before k (json.member l j ms) = is_lt (slice_cmp nat_cmp k l)

-- in each object, at every level, each name is below the next one, by their bytes
abbrev mutual
  pub is_ordered : json.Json → Bool
  is_ordered json.null = true
  is_ordered (json.boolean b) = true
  is_ordered (json.number s) = true
  is_ordered (json.string s) = true
  is_ordered (json.array js) = are_items_ordered js
  is_ordered (json.object ms) = are_members_ordered ms

  pub are_items_ordered : json.Items → Bool
  are_items_ordered json.no_items = true
  are_items_ordered (json.item j js) = is_ordered j && are_items_ordered js

  pub are_members_ordered : json.Members → Bool
  are_members_ordered json.no_members = true
  are_members_ordered (json.member k j ms) = is_before k ms && (is_ordered j && are_members_ordered ms)

-- an ordered tree's document: as it stands, each number as it is written
abbrev mutual
  pub document_of_tree : json.Json → Document
  document_of_tree json.null = null
  document_of_tree (json.boolean b) = boolean b
  document_of_tree (json.number s) = number (written s)
  document_of_tree (json.string s) = string s
  document_of_tree (json.array js) = array (items_of_tree js)
  document_of_tree (json.object ms) = object (members_of_tree ms)

  pub items_of_tree : json.Items → Items
  items_of_tree json.no_items = no_items
  items_of_tree (json.item j js) = item (document_of_tree j) (items_of_tree js)

  pub members_of_tree : json.Members → Members
  members_of_tree json.no_members = no_members
  members_of_tree (json.member k j ms) = member k (document_of_tree j) (members_of_tree ms)

-- the members, with j at k: in the place of the one of its name, or before the first one above it
abbrev pub put_in_order : List ℕ → json.Json → json.Members → json.Members
put_in_order k j json.no_members = json.member k j json.no_members
put_in_order k j (json.member l i ms) = match_ordering (slice_cmp nat_cmp k l) (json.member k j (json.member l i ms)) (json.member l j ms) (json.member l i (put_in_order k j ms))

-- the tree with the members of each object in the order of their names; of a name that comes again the last value stays
abbrev mutual
  pub in_order : json.Json → json.Json
  in_order json.null = json.null
  in_order (json.boolean b) = json.boolean b
  in_order (json.number s) = json.number s
  in_order (json.string s) = json.string s
  in_order (json.array js) = json.array (items_in_order js)
  in_order (json.object ms) = json.object (members_in_order ms json.no_members)

  pub items_in_order : json.Items → json.Items
  items_in_order json.no_items = json.no_items
  items_in_order (json.item j js) = json.item (in_order j) (items_in_order js)

  -- members put one after another among those that are there already
  pub members_in_order : json.Members → json.Members → json.Members
  members_in_order json.no_members found = found
  members_in_order (json.member k j ms) found = members_in_order ms (put_in_order k (in_order j) found)

-- the places of members, by their names, put one after another among those found already; the first has place n
abbrev pub places_from : ℕ → json.Members → List (List ℕ × ℕ) → List (List ℕ × ℕ)
places_from n json.no_members found = found
places_from n (json.member k j ms) found = places_from (suc n) ms (insert_entry (slice_cmp nat_cmp) found k n)

-- the names of an object's members in their order, each with the place of the last member of that name
abbrev pub places : json.Members → List (List ℕ × ℕ)
places ms = places_from 0 ms []

-- the member at a place
abbrev pub member_at : ℕ → json.Members → Option (List ℕ × json.Json)
member_at n json.no_members = None
member_at zero (json.member k j ms) = Some (k, j)
member_at (suc n) (json.member k j ms) = member_at n ms

-- the member whose name has an index among the names in their order
abbrev pub taken : ℕ → json.Members → Option (List ℕ × json.Json)
taken i ms = option_and_then (λ e. member_at e.1 ms) (slice_get (places ms) i)

-- the items, and the members, from an index on
abbrev pub items_from : ℕ → Items → Items
items_from zero ds = ds
items_from (suc n) no_items = no_items
items_from (suc n) (item d ds) = items_from n ds

abbrev pub members_from : ℕ → Members → Members
members_from zero ms = ms
members_from (suc n) no_members = no_members
members_from (suc n) (member k d ms) = members_from n ms

-- the number that a text writes: a whole number, and the power of ten below it
abbrev pub text_fraction : List ℕ → ℤ × ℕ
text_fraction s = let p = scan_numeral (without_minus s) in (signed (is_negative s) (numeral_digits p * 10 ^ tens_up p), tens_down p)

abbrev pub number_fraction : ExactNumber → ℤ × ℕ
number_fraction n = text_fraction (cow_str_bytes n.text)
