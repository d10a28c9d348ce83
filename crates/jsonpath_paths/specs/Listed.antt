-- Which token lists are those of paths, where a text has the words and the quoted texts at their spans.
use Rattle.std.specs.Prelude.{◌≡◌, ℕ, Bool, true, List}
use Rattle.std.specs.List.{list_all}
use Rattle.std.specs.Str.{chars}
use Rattle.jsonpath_paths.specs.token.Kinds.{is_name}
use Rattle.jsonpath_paths.specs.tree.Tree.{Path}
use Rattle.jsonpath_paths.specs.tree.Visit.{path_tokens}
use Rattle.jsonpath_paths.specs.tree.WellFormed.{IsPath}
use Rattle.jsonpath_paths.specs.declared.text.str_reader.StrRange.{StrRange}
use Rattle.jsonpath_paths.specs.declared.token.tokens.ParseToken.{ParseToken}
use Rattle.jsonpath_paths.specs.declared.token.tokens.ParseToken.TheVariants.{Key, Keys}
use Rattle.jsonpath_paths.specs.OfPath.{OfPath}
use Rattle.jsonpath_paths.specs.text.Spans.{slice_at}

-- what stands at the span, taken by itself, is a word or a quoted text
abbrev pub is_name_at : List ℕ → StrRange → Bool
is_name_at text s = is_name (chars (slice_at text s))

-- what stands at each span of the token is a word or a quoted text
abbrev pub has_names_of_token : List ℕ → ParseToken → Bool
has_names_of_token text (Key s) = is_name_at text s
has_names_of_token text (Keys ss) = list_all (is_name_at text) ss
has_names_of_token text _ = true

-- The tokens are the list of the path, of any depth, and each of their spans has a word or a quoted text. The text itself
-- need not be a path.
pub record IsListOf (text : List ℕ) (p : Path) (tokens : List ParseToken) : Type 0 where
  pub path : IsPath p
  pub list : path_tokens p ≡ tokens
  pub names : list_all (has_names_of_token text) tokens ≡ true

-- the tokens are the list of some path
abbrev pub IsSomePath : List ℕ → List ParseToken → Type 0
IsSomePath text tokens = (p : Path) × IsListOf text p tokens

-- the tokens are the list of the path that the text spells
abbrev pub IsListOfText : List ℕ → List ParseToken → Type 0
IsListOfText text tokens = OfPath text (λ path. IsListOf text path tokens)
