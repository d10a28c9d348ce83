-- Arguments of the command line, and path texts with arguments in place of their placeholders.
use Rattle.std.specs.Prelude.{◌≡◌, ◌==◌, ◌||◌, if◌then◌else◌, ℕ, Bool, true, false, List, [], ◌∷◌, ◌++◌, flat_map, codes, All, Contains, String, string_bytes}
use Rattle.std.specs.declared.alloc.Global.{Global}
use Rattle.std.specs.Borrow.{Bor}
use Rattle.std.specs.Option.{option_to_list}
use Rattle.std.specs.Str.{chars}
use Rattle.jsonpath_paths.specs.text.Characters.{backslash, single_quote, name_of, bytes_at}
use Rattle.jsonpath_paths.specs.text.TextPlace.{Place, ahead}
use Rattle.jsonpath_paths.specs.token.Kinds.{HasNone, is_quoted, same_kind}
use Rattle.jsonpath_paths.specs.token.Tokens.{TakesToken, kind_of, span_of}
use Rattle.jsonpath_paths.specs.declared.token.tokens.Kind.{Kind}
use Rattle.jsonpath_paths.specs.declared.token.tokens.Kind.TheVariants as k
use Rattle.jsonpath_paths.specs.declared.token.tokens.Token.{Token}
use Rattle.jpath_words.specs.Asked.{paths_of}
use Rattle.jpath_words.specs.Words.{argument_name, path_of}
use Rattle.jpath_words.specs.declared.command_line.Words.{Words}
use Rattle.jpath_words.specs.declared.command_line.EditWords.{EditWords}
use Rattle.jpath_words.specs.declared.arguments.filled_words.FilledEdit.{FilledEdit}
use Rattle.jpath_words.specs.declared.arguments.filled_words.FilledPaths.{FilledPaths}
use Rattle.jpath_words.specs.declared.command_line.ArgumentWords.{ArgumentWords}
use Rattle.jpath_words.specs.declared.command_line.ArgumentWords.TheVariants.{Text, Number}
use Rattle.jpath_words.specs.declared.arguments.argument.Argument.{Argument}

-- ---- what an argument puts

-- a character between single quotes: a backslash guards each single quote and each backslash
abbrev pub guarded_char : ℕ → List ℕ
guarded_char c = if c == single_quote || c == backslash then backslash ∷ c ∷ [] else c ∷ []

abbrev pub guarded : List ℕ → List ℕ
guarded cs = flat_map guarded_char cs

-- a text is put as one whole quoted text that means it, and a number as it is
abbrev pub IsPut : ArgumentWords → List ℕ → Type 0
IsPut (Text name text) put = (is_quoted single_quote (chars put) ≡ true) × (name_of (chars put) ≡ chars text.now)
IsPut (Number name number) put = put ≡ number.now

-- an argument as its words say it: its placeholder is its name in braces
pub record IsArgumentOf (words : ArgumentWords) (argument : Argument) : Type 0 where
  pub named : string_bytes argument.placeholder ≡ codes "{" ++ (argument_name words ++ codes "}")
  pub put : IsPut words (string_bytes argument.put)

-- ---- the tokens that stay, and those that are put

abbrev pub start_of : List ℕ → Place
start_of text = record { text = text; pos = 0 }

-- the next token is of this kind, and has this text
pub record TakesText (kind : Kind) (text : List ℕ) (from to : Place) : Type 0 where
  pub next : Token
  pub taken : TakesToken from next to
  pub of_kind : kind_of next ≡ kind
  pub shown : bytes_at from.text (span_of next) ≡ text

-- what an argument puts is next: a quoted text, a word, or two words with a point between them
pub data TakesPut (put : List ℕ) (from to : Place) : Type 0 where
  quoted : TakesText k.SingleQuoted put from to → TakesPut put from to
  word : TakesText k.Key put from to → TakesPut put from to
  with_point : {m n : Place} (whole point fraction : List ℕ) → put ≡ whole ++ (point ++ fraction) → TakesText k.Key whole from m → TakesText k.Dot point m n → TakesText k.Key fraction n to
      → TakesPut put from to

-- the token is the placeholder of the argument: a word, and no dot is before it
pub record IsPlaceholder (behind_dot : Bool) (kind : Kind) (text : List ℕ) (argument : Argument) : Type 0 where
  pub free : behind_dot ≡ false
  pub a_word : kind ≡ k.Key
  pub named : string_bytes argument.placeholder ≡ text

abbrev pub is_dot : Kind → Bool
is_dot kind = same_kind k.Dot kind

-- what becomes of a token of a path is next: what an argument puts whose placeholder it is, or else the token itself
pub data TakesKeptOrPut (arguments : List Argument) (behind_dot : Bool) (kind : Kind) (text : List ℕ) (from to : Place) : Type 0 where
  kept : All (λ a. IsPlaceholder behind_dot kind text a → ⊥) arguments → TakesText kind text from to → TakesKeptOrPut arguments behind_dot kind text from to
  put : {a : Argument} → Contains arguments a → IsPlaceholder behind_dot kind text a → TakesPut (string_bytes a.put) from to → TakesKeptOrPut arguments behind_dot kind text from to

-- From the one place on to its text's end are tokens, and from the other on what becomes of each.
pub data Fills (arguments : List Argument) : Bool → Place → Place → Type 0 where
  ends : {b : Bool} {p q : Place} → ahead p ≡ [] → ahead q ≡ [] → Fills arguments b p q
  next : {b : Bool} {p q to behind : Place} (kind : Kind) (text : List ℕ) → TakesText kind text p to → TakesKeptOrPut arguments b kind text q behind → Fills arguments (is_dot kind) to behind
      → Fills arguments b p q

-- A path text with arguments put in: into the tokens with which it begins, and into what is behind the next part, with
-- which no token begins. In a path there is no such part. What is left may be as it was typed.
pub data IsFilled (arguments : List Argument) : List ℕ → List ℕ → Type 0 where
  filled : {path made : List ℕ} (tokens between behind tokens_made behind_made : List ℕ) → path ≡ tokens ++ (between ++ behind) → made ≡ tokens_made ++ (between ++ behind_made)
      → Fills arguments false (start_of tokens) (start_of tokens_made) → HasNone (ahead (start_of (between ++ behind))) → IsFilled arguments behind behind_made → IsFilled arguments path made
  as_typed : {path made : List ℕ} → made ≡ path → IsFilled arguments path made

-- the same for the text of a column, whose path may have a name before it
pub record IsFilledText (arguments : List Argument) (text made : List ℕ) : Type 0 where
  pub front : List ℕ
  pub path : List ℕ
  pub filled_path : List ℕ
  pub typed : text ≡ front ++ path
  pub is : made ≡ front ++ filled_path
  pub filled : IsFilled arguments path filled_path

-- both lists are as long, and this holds of what is at the same place in them
abbrev pub Pairwise : {X Y : Type 0} → (X → Y → Type 0) → List X → List Y → Type 0
Pairwise R [] [] = Unit {0}
Pairwise R [] (y ∷ ys) = ⊥
Pairwise R (x ∷ xs) [] = ⊥
Pairwise R (x ∷ xs) (y ∷ ys) = R x y × Pairwise R xs ys

abbrev pub AreFilled : List Argument → List (Bor (List ℕ)) → List (String Global) → Type 0
AreFilled arguments texts made = Pairwise (λ t m. IsFilledText arguments t.now (string_bytes m)) texts made

-- the path text of `--rows`, if there is one
abbrev pub rows_of : Words → List (Bor (List ℕ))
rows_of words = option_to_list words.rows

-- an edit, its path filled
abbrev pub IsFilledEdit : List Argument → EditWords → FilledEdit → Type 0
IsFilledEdit arguments words edit = (edit.words ≡ words) × IsFilledText arguments (path_of words) (string_bytes edit.path)

-- all paths of a command line, filled
pub record AreAllFilled (arguments : List Argument) (words : Words) (filled : FilledPaths) : Type 0 where
  pub paths : AreFilled arguments (paths_of words) filled.paths.items
  pub rows : AreFilled arguments (rows_of words) filled.rows.items
  pub edits : Pairwise (IsFilledEdit arguments) words.edits.items filled.edits.items
