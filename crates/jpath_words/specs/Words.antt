-- The words of an edit, and of an argument; and the command line as `clap` found its options.
use Rattle.std.specs.Prelude.{◌≡◌, ◌⊎◌, ℕ, Bool, true, false, List, [], Some, None, map, option_map, unwrap_or, codes}
use Rattle.clap.specs.Words.{first_value, found_of, matched_of, one_text, raw_values}
use Rattle.clap.specs.declared.parser.matches.ArgMatches.{ArgMatches}
use Rattle.clap.specs.declared.parser.matches.Found.{Found}
use Rattle.jpath_words.specs.declared.command_line.EditWords.{EditWords}
use Rattle.jpath_words.specs.declared.command_line.EditWords.TheVariants.{Set, SetText, Add, AddText, Append, Rename, Null, Remove}
use Rattle.jpath_words.specs.declared.command_line.Flags.{Flags}
use Rattle.jpath_words.specs.declared.command_line.Words.{Words}
use Rattle.jpath_words.specs.declared.command_line.ParseOutcome.{ParseOutcome}
use Rattle.jpath_words.specs.declared.command_line.ParseOutcome.TheVariants.{Words as Parsed, Ended}
use Rattle.jpath_words.specs.declared.command_line.ArgumentWords.{ArgumentWords}
use Rattle.jpath_words.specs.declared.command_line.ArgumentWords.TheVariants.{Text, Number}

-- the path whose places change
abbrev pub path_of : EditWords → List ℕ
path_of (Set path json) = path.now
path_of (SetText path text) = path.now
path_of (Add path json) = path.now
path_of (AddText path text) = path.now
path_of (Append path json) = path.now
path_of (Rename path new) = path.now
path_of (Null path) = path.now
path_of (Remove path) = path.now

-- the name in braces by which a path names it
abbrev pub argument_name : ArgumentWords → List ℕ
argument_name (Text name text) = name.now
argument_name (Number name number) = name.now

-- ---- what was found

-- the values of an option in their order, or none
abbrev pub texts_of : Found → List ℕ → List (List ℕ)
texts_of found id = unwrap_or (option_map raw_values (matched_of found id)) []

-- a flag is set where its option was found
abbrev pub IsFlag : Found → List ℕ → Bool → Type 0
IsFlag found id flag = (one_text found id ≡ None → flag ≡ false) × (one_text found id ≡ Some (codes "true") → flag ≡ true) × (one_text found id ≡ Some (codes "false") → flag ≡ false)

pub record AreFlags (found : Found) (flags : Flags) : Type 0 where
  pub raw : IsFlag found (codes "raw") flags.raw
  pub pretty : IsFlag found (codes "pretty") flags.pretty
  pub tab : IsFlag found (codes "tab") flags.tab
  pub sort_keys : IsFlag found (codes "sort-keys") flags.sort_keys
  pub array : IsFlag found (codes "array") flags.array
  pub locations : IsFlag found (codes "locations") flags.locations
  pub with_locations : IsFlag found (codes "with-locations") flags.with_locations
  pub keys : IsFlag found (codes "keys") flags.keys
  pub entries : IsFlag found (codes "entries") flags.entries
  pub lengths : IsFlag found (codes "lengths") flags.lengths
  pub count : IsFlag found (codes "count") flags.count
  pub quiet : IsFlag found (codes "quiet") flags.quiet
  pub with_filename : IsFlag found (codes "with-filename") flags.with_filename
  pub keep_going : IsFlag found (codes "keep-going") flags.keep_going
  pub in_place : IsFlag found (codes "in-place") flags.in_place
  pub copy : IsFlag found (codes "copy") flags.copy
  pub csv : IsFlag found (codes "csv") flags.csv
  pub tsv : IsFlag found (codes "tsv") flags.tsv
  pub header : IsFlag found (codes "header") flags.header
  pub check : IsFlag found (codes "check") flags.check
  pub join : IsFlag found (codes "join") flags.join
  pub nul : IsFlag found (codes "nul") flags.nul
  pub seq : IsFlag found (codes "seq") flags.seq

-- the words are what was found
pub record AreFound (found : Found) (words : Words) : Type 0 where
  pub flags : AreFlags found words.flags
  pub paths : map (λ t. t.now) words.paths.items ≡ texts_of found (codes "path")
  pub rows : option_map (λ t. t.now) words.rows ≡ first_value found (codes "rows")
  pub rest : map (λ t. t.now) words.rest.items ≡ texts_of found (codes "words")

-- words as a parse of `clap` found them, which asks for no completions; or the status of what was printed
abbrev pub IsOutcome : ParseOutcome → Type 0
IsOutcome (Parsed words) = (matches : ArgMatches) × AreFound (found_of matches) words × (first_value (found_of matches) (codes "completions") ≡ None)
IsOutcome (Ended status) = (status ≡ 0) ⊎ (status ≡ 2)
