-- A row of fields as a line.
use Rattle.std.specs.Prelude.{ℕ, List, [], ◌∷◌, ◌++◌, ◌==◌, if◌then◌else◌, flat_map}
use Rattle.csv.specs.Writing.{default_writer, row_text}
use Rattle.jpath_texts.specs.declared.output.csv_and_tsv.Separated.{Separated}
use Rattle.jpath_texts.specs.declared.output.csv_and_tsv.Separated.TheVariants.{ByCommas, ByTabs}

-- a byte of a field between tabs: a tab, a line feed, a carriage return and a backslash by a backslash and a letter or a second one
abbrev pub guarded : ℕ → List ℕ
guarded byte =
    if byte == 9 then 92 ∷ 116 ∷ [] else (if byte == 10 then 92 ∷ 110 ∷ [] else (if byte == 13 then 92 ∷ 114 ∷ [] else (if byte == 92 then 92 ∷ 92 ∷ [] else byte ∷ [])))

abbrev pub guarded_field : List ℕ → List ℕ
guarded_field field = flat_map guarded field

-- fields, each behind a tab
abbrev pub behind_tabs : List (List ℕ) → List ℕ
behind_tabs fields = flat_map (λ field. 9 ∷ guarded_field field) fields

-- fields with tabs between them, and a line end
abbrev pub by_tabs : List (List ℕ) → List ℕ
by_tabs [] = 10 ∷ []
by_tabs (first ∷ rest) = guarded_field first ++ (behind_tabs rest ++ 10 ∷ [])

-- fields with commas between them, quoted where they need it, and a line end: a record of CSV
abbrev pub by_commas : List (List ℕ) → List ℕ
by_commas fields = row_text default_writer fields

abbrev pub row_line : Separated → List (List ℕ) → List ℕ
row_line ByCommas fields = by_commas fields
row_line ByTabs fields = by_tabs fields
