-- What is written for the matches of a path in one document.
use Rattle.std.specs.Prelude.{◌≡◌, ℕ, ◌-◌, ◌^◌, min, Bool, true, false, if◌then◌else◌, List, [], ◌∷◌, ◌++◌, flat_map, filter_map, length, Option, Some, None}
use Rattle.json.specs.Json.{Json}
use Rattle.jsonpath_paths.specs.tree.Tree.{Path}
use Rattle.jsonpath_nodes.specs.place.Location.{Location}
use Rattle.jsonpath_nodes.specs.place.LocationText.{location_text}
use Rattle.jsonpath_select.specs.Meaning.{sel, SelectsAt}
use Rattle.json_trees.specs.ExactAt.{exact_at}
use Rattle.jpath_core.specs.Printable.{printable}
use Rattle.jpath_texts.specs.AtDepth.{arranged, array_item, array_end, comma_and_indent, is_compact}
use Rattle.jpath_texts.specs.Entries.{entry_lines, length_of, length_value}
use Rattle.jpath_texts.specs.Lines.{compact, on_line, shown, with_members_kept}
use Rattle.json_trees.specs.ExactDocument.{exact_document}
use Rattle.jpath_texts.specs.declared.output.match_line.Line.{Line}
use Rattle.jpath_texts.specs.declared.output.match_line.Shown.{Shown}
use Rattle.jpath_texts.specs.declared.output.match_line.Shown.TheVariants.{Values, Places, PlacesAndValues, Keys, Entries, Lengths}
use Rattle.jpath_texts.specs.declared.output.look.Layout.TheVariants.{OneLine}
use Rattle.jpath_texts.specs.declared.output.look.Look.{Look}
use Rattle.jpath_texts.specs.declared.query.Query.{Query}

-- the lines of a value at a place: of the value, its place, or both with a tab between; of its names; of its length
abbrev pub text_by : Shown → Line → Location → Json → List ℕ
text_by Values line l j = on_line line (shown line.look j)
text_by Places line l j = on_line line (printable (location_text l))
text_by PlacesAndValues line l j = on_line line (printable (location_text l) ++ 9 ∷ shown line.look j)
text_by Keys line l j = entry_lines false line j
text_by Entries line l j = entry_lines true line j
text_by Lengths line l j = on_line line (with_members_kept line.look (length_value (length_of j)))

abbrev pub match_text : Line → Location → Json → List ℕ
match_text line l j = text_by line.shown line l j

abbrev pub match_text_if : Line → Location → Option Json → List ℕ
match_text_if line l None = []
match_text_if line l (Some j) = match_text line l j

-- the lines of what stands in the tree at these places, in their order
abbrev pub lines_text : Line → Json → List Location → List ℕ
lines_text line j ls = flat_map (λ l. match_text_if line l (exact_at j l)) ls

-- the lines of what the path selects went behind what was there
pub record AddsMatches (spelled : List ℕ) (line : Line) (exact : Json) (before after : List ℕ) (count : ℕ) (p : Path) : Type 0 where
  pub written : after ≡ before ++ lines_text line exact (sel spelled (exact_document exact) p)
  pub counted : count ≡ length (sel spelled (exact_document exact) p)

-- ---- several paths

-- what several paths select: the locations of the first path, then those of the second, and so on, with repeats
pub data SelectInTurn (exact : Json) : List Query → List Location → Type 0 where
  nothing : SelectInTurn exact [] []
  path_first : {query : Query} {queries : List Query} {first others : List Location} → SelectsAt query.path (exact_document exact) first → SelectInTurn exact queries others
      → SelectInTurn exact (query ∷ queries) (first ++ others)

-- the number of locations that the paths select, or the greatest `usize`
pub record IsCountOf (queries : List Query) (exact : Json) (count : ℕ) : Type 0 where
  pub locations : List Location
  pub in_turn : SelectInTurn exact queries locations
  pub counted : count ≡ min (length locations) (2 ^ 64 - 1)

-- the values stand in the tree at the locations that the paths select
pub record AreSelected (queries : List Query) (exact : Json) (values : List Json) : Type 0 where
  pub locations : List Location
  pub in_turn : SelectInTurn exact queries locations
  pub there : values ≡ filter_map (exact_at exact) locations

-- an item of an array as a look has it, behind a comma or not; compact where the look is
abbrev pub item_text : Bool → Look → Json → List ℕ
item_text has_comma look j = if is_compact look then comma_and_indent has_comma OneLine 1 ++ compact (arranged look.is_sorted j) else array_item has_comma look j

-- items of an array and its end, behind others or not
abbrev pub items_text : Bool → Look → List Json → List ℕ
items_text has_items look [] = array_end has_items look
items_text has_items look (j ∷ js) = item_text has_items look j ++ items_text true look js

-- a line with one array of what the paths select went behind what was there
pub record AddsArray (queries : List Query) (line : Line) (exact : Json) (before after : List ℕ) (count : ℕ) : Type 0 where
  pub values : List Json
  pub selected : AreSelected queries exact values
  pub written : after ≡ before ++ on_line line (91 ∷ items_text false line.look values)
  pub counted : count ≡ length values
