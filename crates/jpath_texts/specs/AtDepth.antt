-- A value as a look has it: its members in order or as read, in colours or not, on one line or over lines.
use Rattle.std.specs.Prelude.{ℕ, ◌+◌, ◌-◌, ◌*◌, ◌^◌, min, Bool, true, false, not, ◌&&◌, if◌then◌else◌, List, [], ◌∷◌, ◌++◌, codes, replicate}
use Rattle.json.specs.Json.{Json, null, boolean, number, string, array, object, Items, no_items, item, Members, no_members, member}
use Rattle.json.specs.Print.{quoted}
use Rattle.jpath_texts.specs.NamesOnce.{names_once}
use Rattle.json_trees.specs.OrderedTree.{in_order}
use Rattle.jpath_texts.specs.declared.output.look.Layout.{Layout}
use Rattle.jpath_texts.specs.declared.output.look.Layout.TheVariants.{OneLine, Blanks, Tabs}
use Rattle.jpath_texts.specs.declared.output.look.Look.{Look}

-- ---- colours

-- the sequence of bytes that sets this colour
abbrev pub set_color : List ℕ → List ℕ
set_color code = 27 ∷ 91 ∷ code

abbrev pub name_color : List ℕ
name_color = set_color (codes "34;1m")

abbrev pub text_color : List ℕ
text_color = set_color (codes "32m")

abbrev pub number_color : List ℕ
number_color = set_color (codes "36m")

abbrev pub word_color : List ℕ
word_color = set_color (codes "35m")

abbrev pub no_color : List ℕ
no_color = set_color (codes "0m")

-- a text in a colour, if there are colours
abbrev pub in_color : Bool → List ℕ → List ℕ → List ℕ
in_color is_colored color text = if is_colored then color ++ (text ++ no_color) else text

-- ---- lines

abbrev pub is_over_lines : Layout → Bool
is_over_lines OneLine = false
is_over_lines (Blanks n) = true
is_over_lines Tabs = true

-- a line end and the indentation of the next line, where values stand on lines
abbrev pub indent : Layout → ℕ → List ℕ
indent OneLine depth = []
indent (Blanks n) depth = 10 ∷ replicate (depth * n) 32
indent Tabs depth = 10 ∷ replicate depth 9

-- what stands before an item or a member
abbrev pub comma_and_indent : Bool → Layout → ℕ → List ℕ
comma_and_indent has_comma layout depth = if has_comma then 44 ∷ indent layout depth else indent layout depth

-- the depth of what stands in an array or object; a depth is a `usize`
abbrev pub inner : ℕ → ℕ
inner depth = min (depth + 1) (2 ^ 64 - 1)

-- the bracket or brace that closes, on a line of its own where something stands before it on lines
abbrev pub closed_by : ℕ → Bool → Layout → ℕ → List ℕ
closed_by bracket has_items layout depth = if has_items then indent layout depth ++ bracket ∷ [] else bracket ∷ []

-- a colon, and a blank where values stand on lines
abbrev pub colon : Layout → List ℕ
colon layout = if is_over_lines layout then 58 ∷ 32 ∷ [] else 58 ∷ []

-- ---- values

abbrev mutual
  pub at_depth : Look → ℕ → Json → List ℕ
  at_depth look depth null = in_color look.is_colored word_color (codes "null")
  at_depth look depth (boolean true) = in_color look.is_colored word_color (codes "true")
  at_depth look depth (boolean false) = in_color look.is_colored word_color (codes "false")
  at_depth look depth (number digits) = in_color look.is_colored number_color digits
  at_depth look depth (string s) = in_color look.is_colored text_color (quoted s)
  at_depth look depth (array js) = 91 ∷ rest_of_array false look depth js
  at_depth look depth (object ms) = 123 ∷ rest_of_object false look depth ms

  -- items of an array and its end, behind others or not
  pub rest_of_array : Bool → Look → ℕ → Items → List ℕ
  rest_of_array has_items look depth no_items = closed_by 93 has_items look.layout depth
  rest_of_array has_items look depth (item j js) = comma_and_indent has_items look.layout (inner depth) ++ (at_depth look (inner depth) j ++ rest_of_array true look depth js)

  -- members of an object and its end, behind others or not
  pub rest_of_object : Bool → Look → ℕ → Members → List ℕ
  rest_of_object has_members look depth no_members = closed_by 125 has_members look.layout depth
  rest_of_object has_members look depth (member k j ms) =
      comma_and_indent has_members look.layout (inner depth) ++ (in_color look.is_colored name_color (quoted k) ++ (colon look.layout ++ (at_depth look (inner depth) j ++ rest_of_object true look depth ms)))

-- ---- by a look

-- each name once: at its first place, or the names in the order of their bytes; with its last value
abbrev pub arranged : Bool → Json → Json
arranged is_sorted j = if is_sorted then in_order j else names_once j

-- on one line and without colours
abbrev pub is_compact : Look → Bool
is_compact look = not (is_over_lines look.layout) && not look.is_colored

-- an item of an array behind a comma or not
abbrev pub array_item : Bool → Look → Json → List ℕ
array_item has_comma look j = comma_and_indent has_comma look.layout 1 ++ at_depth look 1 (arranged look.is_sorted j)

-- the end of an array
abbrev pub array_end : Bool → Look → List ℕ
array_end has_items look = closed_by 93 has_items look.layout 0
