-- What is written for the rows of a table.
use Rattle.std.specs.Prelude.{◌≡◌, ℕ, true, false, List, [], ◌∷◌, ◌++◌, length, Option, Some, None}
use Rattle.json.specs.Json.{Json}
use Rattle.jsonpath_paths.specs.OfPath.{OfPath}
use Rattle.jsonpath_nodes.specs.place.Location.{Location}
use Rattle.jsonpath_select.specs.Meaning.{sel, SelectsAt}
use Rattle.json_trees.specs.ExactAt.{exact_at}
use Rattle.json_trees.specs.ExactDocument.{exact_document}
use Rattle.jpath_texts.specs.Lines.{shown}
use Rattle.jpath_texts.specs.Rows.{row_line}
use Rattle.jpath_texts.specs.declared.output.csv_and_tsv.Separated.{Separated}
use Rattle.jpath_texts.specs.declared.output.look.Layout.TheVariants.{OneLine}
use Rattle.jpath_texts.specs.declared.output.look.Look.{Look}
use Rattle.jpath_texts.specs.declared.query.Query.{Query}

-- a text raw, all else compact
abbrev pub field_look : Look
field_look = record { is_raw = true; is_sorted = false; layout = OneLine; is_colored = false }

abbrev pub field_if : Option Json → List ℕ
field_if None = []
field_if (Some j) = shown field_look j

-- the field of the value in the tree at the first of these locations
abbrev pub first_field : Json → List Location → List ℕ
first_field exact [] = []
first_field exact (l ∷ ls) = field_if (exact_at exact l)

-- the field of a column: of the first value that the column's path selects with the row's value as root, or nothing
abbrev pub IsField : Json → Query → List ℕ → Type 0
IsField exact column field = OfPath column.path (λ path. field ≡ first_field exact (sel column.path (exact_document exact) path))

-- a field for each column
pub data AreFields (exact : Json) : List Query → List (List ℕ) → Type 0 where
  no_fields : AreFields exact [] []
  field_first : {column : Query} {columns : List Query} {field : List ℕ} {fields : List (List ℕ)} → IsField exact column field → AreFields exact columns fields → AreFields exact (column ∷ columns) (field ∷ fields)

-- the row of the value at a location, if one is there
pub data IsRowAt (exact : Json) (columns : List Query) (separated : Separated) (l : Location) : List ℕ → Type 0 where
  row : {value : Json} {fields : List (List ℕ)} → exact_at exact l ≡ Some value → AreFields value columns fields → IsRowAt exact columns separated l (row_line separated fields)
  no_row : exact_at exact l ≡ None → IsRowAt exact columns separated l []

pub record AddsRow (exact : Json) (columns : List Query) (separated : Separated) (l : Location) (before after : List ℕ) : Type 0 where
  pub text : List ℕ
  pub is_row : IsRowAt exact columns separated l text
  pub written : after ≡ before ++ text

-- the rows of the values at these locations, in their order
pub data AreRowsAt (exact : Json) (columns : List Query) (separated : Separated) : List Location → List ℕ → Type 0 where
  no_rows : AreRowsAt exact columns separated [] []
  row_first : {l : Location} {ls : List Location} {text more : List ℕ} → IsRowAt exact columns separated l text → AreRowsAt exact columns separated ls more → AreRowsAt exact columns separated (l ∷ ls) (text ++ more)

-- the rows of what the path selects went behind what was there
pub record AddsRows (path : List ℕ) (columns : List Query) (separated : Separated) (exact : Json) (before after : List ℕ) (count : ℕ) : Type 0 where
  pub locations : List Location
  pub selected : SelectsAt path (exact_document exact) locations
  pub text : List ℕ
  pub rows : AreRowsAt exact columns separated locations text
  pub written : after ≡ before ++ text
  pub counted : count ≡ length locations
