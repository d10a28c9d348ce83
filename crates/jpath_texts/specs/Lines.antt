-- The text of a value.
use Rattle.std.specs.Prelude.{ℕ, Bool, if◌then◌else◌, List, [], ◌∷◌, ◌++◌, Option, Some, None}
use Rattle.std.specs.Borrow.{Bor}
use Rattle.json.specs.Json.{Json, null, boolean, number, string, array, object}
use Rattle.json.specs.Print.{print}
use Rattle.json.specs.Tree.{json_tokens}
use Rattle.jpath_texts.specs.AtDepth.{arranged, at_depth, is_compact}
use Rattle.jpath_texts.specs.declared.output.match_line.Line.{Line}
use Rattle.jpath_texts.specs.declared.output.match_line.LineEnd.{LineEnd}
use Rattle.jpath_texts.specs.declared.output.match_line.LineEnd.TheVariants.{LineFeed, Nul, Nothing}
use Rattle.jpath_texts.specs.declared.output.look.Look.{Look}

-- the compact text of a value: its numbers' digits and its members' order as they were read
abbrev pub compact : Json → List ℕ
compact j = print (json_tokens j)

-- a text without quotes and escapes, and all else as it is given
abbrev pub raw_or : Json → List ℕ → List ℕ
raw_or null other = other
raw_or (boolean b) other = other
raw_or (number n) other = other
raw_or (string s) other = s
raw_or (array js) other = other
raw_or (object ms) other = other

-- a value compact, or in colours or over lines
abbrev pub laid_out : Look → Json → List ℕ
laid_out look j = if is_compact look then compact j else at_depth look 0 j

-- the same, but for a text where it is to be raw
abbrev pub with_members_kept : Look → Json → List ℕ
with_members_kept look j = if look.is_raw then raw_or j (laid_out look j) else laid_out look j

-- a value as a look has it
abbrev pub shown : Look → Json → List ℕ
shown look j = with_members_kept look (arranged look.is_sorted j)

-- a name, with a colon behind it
abbrev pub named : Option (Bor (List ℕ)) → List ℕ
named None = []
named (Some name) = name.now ++ 58 ∷ []

-- what begins a text of a JSON text sequence
abbrev pub record_start : Bool → List ℕ
record_start is_record = if is_record then 30 ∷ [] else []

-- what follows a line
abbrev pub line_end : LineEnd → List ℕ
line_end LineFeed = 10 ∷ []
line_end Nul = 0 ∷ []
line_end Nothing = []

-- a text on a line, with what begins and what ends the line
abbrev pub on_line : Line → List ℕ → List ℕ
on_line line text = record_start line.is_record ++ (named line.name ++ (text ++ line_end line.end))
