-- What the words ask for.
use Rattle.std.specs.Prelude.{◌≡◌, ◌<◌, ℕ, Bool, true, false, not, ◌&&◌, ◌==◌, if◌then◌else◌, List, [], ◌∷◌, length, map, take, drop, Option, Some, None}
use Rattle.std.specs.Borrow.{Bor}
use Rattle.json.specs.Json.{Json, null, string}
use Rattle.jpath_words.specs.Words.{path_of}
use Rattle.jpath_words.specs.declared.command_line.Color.{Color}
use Rattle.jpath_words.specs.declared.command_line.Color.TheVariants.{Auto, Always, Never}
use Rattle.jpath_words.specs.declared.command_line.Flags.{Flags}
use Rattle.jpath_words.specs.declared.command_line.Words.{Words}
use Rattle.jpath_words.specs.declared.command_line.EditWords.{EditWords}
use Rattle.jpath_words.specs.declared.command_line.EditWords.TheVariants.{Set, SetText, Add, AddText, Append, Rename, Null, Remove}
use Rattle.json_trees.specs.Exact.{exact_of}
use Rattle.jpath_texts.specs.Lines.{compact}
use Rattle.jpath_texts.specs.declared.output.look.Layout.{Layout}
use Rattle.jpath_texts.specs.declared.output.look.Layout.TheVariants.{OneLine, Blanks, Tabs}
use Rattle.jpath_texts.specs.declared.output.look.Look.{Look}
use Rattle.jpath_texts.specs.declared.output.match_line.LineEnd.{LineEnd}
use Rattle.jpath_texts.specs.declared.output.match_line.LineEnd.TheVariants.{LineFeed, Nul, Nothing}
use Rattle.jpath_texts.specs.declared.output.match_line.Shown.{Shown}
use Rattle.jpath_texts.specs.declared.output.match_line.Shown.TheVariants.{Values, Places, PlacesAndValues, Keys, Entries, Lengths}
use Rattle.jpath_texts.specs.declared.query.Query.{Query}
use Rattle.jpath_words.specs.declared.task.Task.{Task}
use Rattle.jpath_words.specs.declared.task.Task.TheVariants.{Lines, Array, Count, Quiet, Table, Edits}
use Rattle.jpath_words.specs.declared.task.Edit.{Edit}
use Rattle.jpath_words.specs.declared.task.Table.{Table as TableOf}

-- whether the document is edited
abbrev pub is_edit : Task → Bool
is_edit (Lines queries shown) = false
is_edit (Array queries) = false
is_edit (Count queries) = false
is_edit (Quiet queries) = false
is_edit (Table table) = false
is_edit (Edits edits) = true

-- whether lines are coloured: always, never, or on a terminal alone, unless no colours are wanted
abbrev pub colored_by : Color → Bool → Bool → Bool
colored_by Always is_terminal has_no_color = true
colored_by Never is_terminal has_no_color = false
colored_by Auto is_terminal has_no_color = is_terminal && not has_no_color

-- over lines or not, and how lines are indented: by blanks as many as are asked for, or two, or by a tab
abbrev pub blanks_by : Bool → Option ℕ → Layout
blanks_by is_pretty (Some count) = Blanks count
blanks_by is_pretty None = if is_pretty then Blanks 2 else OneLine

abbrev pub layout_by : Flags → Layout
layout_by flags = if flags.tab then Tabs else blanks_by flags.pretty flags.indent

-- how values look
abbrev pub look_by : Flags → Bool → Look
look_by flags is_colored = record { is_raw = flags.raw; is_sorted = flags.sort_keys; layout = layout_by flags; is_colored = is_colored }

-- what follows a value
abbrev pub end_by : Flags → LineEnd
end_by flags = if flags.join then Nothing else (if flags.nul then Nul else LineFeed)

-- ---- paths and files

-- Where no option gives a path and nothing is edited, the first of the words that belong to no option is the path.
abbrev pub begins_with_path : Words → Bool
begins_with_path words = (length words.paths.items == 0) && (length words.edits.items == 0)

abbrev pub paths_of : Words → List (Bor (List ℕ))
paths_of words = if begins_with_path words then take 1 words.rest.items else words.paths.items

abbrev pub files_of : Words → List (Bor (List ℕ))
files_of words = if begins_with_path words then drop 1 words.rest.items else words.rest.items

-- the queries are these path texts, compiled
abbrev pub AreOf : List Query → List (Bor (List ℕ)) → Type 0
AreOf queries texts = map (λ q. q.path) queries ≡ map (λ t. t.now) texts

-- ---- edits

-- the text that an edit puts: of the value that its JSON is, of its text or name as a string, or of null
abbrev pub IsValueText : EditWords → List ℕ → Type 0
IsValueText (Set path json) text = (tree : Json) × (exact_of json.now ≡ Some tree) × (text ≡ compact tree)
IsValueText (SetText path words) text = text ≡ compact (string words.now)
IsValueText (Add path json) text = (tree : Json) × (exact_of json.now ≡ Some tree) × (text ≡ compact tree)
IsValueText (AddText path words) text = text ≡ compact (string words.now)
IsValueText (Append path json) text = (tree : Json) × (exact_of json.now ≡ Some tree) × (text ≡ compact tree)
IsValueText (Rename path new) text = text ≡ compact (string new.now)
IsValueText (Null path) text = text ≡ compact null
IsValueText (Remove path) text = text ≡ compact null

-- an edit as its words say it
pub record IsEditOf (words : EditWords) (edit : Edit) : Type 0 where
  pub words_kept : edit.words ≡ words
  pub path : edit.query.path ≡ path_of words
  pub value : IsValueText words edit.value.items

abbrev pub AreEditsOf : List EditWords → List Edit → Type 0
AreEditsOf [] [] = Unit {0}
AreEditsOf [] (edit ∷ edits) = ⊥
AreEditsOf (words ∷ more) [] = ⊥
AreEditsOf (words ∷ more) (edit ∷ edits) = IsEditOf words edit × AreEditsOf more edits

-- ---- the task

-- what is shown of a match
abbrev pub parts_by : Flags → Shown
parts_by flags = if flags.keys then Keys else (if flags.entries then Entries else (if flags.lengths then Lengths else Values))

abbrev pub shown_by : Flags → Shown
shown_by flags = if flags.locations then Places else (if flags.with_locations then PlacesAndValues else parts_by flags)

-- what is done with the matches of these queries
abbrev pub IsOfMatches : Flags → List Query → Task → Type 0
IsOfMatches flags queries (Count found) = (flags.count ≡ true) × (found.items ≡ queries)
IsOfMatches flags queries (Quiet found) = (flags.quiet ≡ true) × (found.items ≡ queries)
IsOfMatches flags queries (Array found) = (flags.array ≡ true) × (found.items ≡ queries)
IsOfMatches flags queries (Lines found shown) = (flags.count ≡ false) × (flags.quiet ≡ false) × (flags.array ≡ false) × (shown ≡ shown_by flags) × (found.items ≡ queries)
IsOfMatches flags queries (Table table) = ⊥
IsOfMatches flags queries (Edits edits) = ⊥

-- a table as the words say it
pub record IsTableOf (words : Words) (table : TableOf) : Type 0 where
  pub rows : Bor (List ℕ)
  pub given : words.rows ≡ Some rows
  pub rows_path : table.rows.path ≡ rows.now
  pub columns : length table.columns.items ≡ length (paths_of words)
  pub names : length table.names.items ≡ length (paths_of words)
  pub header : table.has_header ≡ words.flags.header

-- the words ask for this task
abbrev pub IsAsked : Words → Task → Type 0
IsAsked words (Table table) = (length words.edits.items ≡ 0) × IsTableOf words table
IsAsked words (Edits edits) = (0 < length words.edits.items) × AreEditsOf words.edits.items edits.items
IsAsked words task = (length words.edits.items ≡ 0) × (words.rows ≡ None) × (queries : List Query) × AreOf queries (paths_of words) × IsOfMatches words.flags queries task
