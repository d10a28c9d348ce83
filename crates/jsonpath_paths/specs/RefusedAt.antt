-- Where a text that is no path is refused, by what the grammar spells alone.
use Rattle.std.specs.Prelude.{◌≡◌, ℕ, ◌+◌, ◌==◌, if◌then◌else◌, List, [], ◌∷◌, ◌++◌, length, take}
use Rattle.std.specs.Str.{chars}
use Rattle.std.specs.Char.{len_utf8}
use Rattle.jsonpath_paths.specs.Grammar.{Lexemes, SpellsPath}
use Rattle.jsonpath_paths.specs.text.Characters.{is_quote}
use Rattle.jsonpath_paths.specs.Spelling.{IsInGrammar}
use Rattle.jsonpath_paths.specs.token.Tokens.{TokensAt}
use Rattle.jsonpath_paths.specs.tree.Tree.{Path}
use Rattle.jsonpath_paths.specs.declared.token.tokens.Lexeme.{Lexeme}
use Rattle.jsonpath_paths.specs.declared.token.tokens.TokenError.{TokenError}
use Rattle.jsonpath_paths.specs.declared.token.tokens.TokenError.TheVariants.{Eof, Position}

-- the byte behind these tokens of a text
abbrev pub end_of : Lexemes → ℕ
end_of [] = 0
end_of (p ∷ []) = p.span.pos + p.span.offset
end_of (p ∷ q ∷ ps) = end_of (q ∷ ps)

-- some path begins with these tokens of the text
pub record BeginsPath (text : List ℕ) (front : Lexemes) : Type 0 where
  pub whole : List ℕ
  pub later : Lexemes
  pub path : Path
  pub same : take (end_of front) whole ≡ take (end_of front) text
  pub read : TokensAt 0 (chars whole) (front ++ later) []
  pub spelled : SpellsPath whole path (front ++ later)

-- a place in the text, and its end is Eof
abbrev pub place_in : List ℕ → ℕ → TokenError
place_in text n = if n == length text then Eof else Position n

-- the place of the refusal
pub data RefusedAt (text : List ℕ) : TokenError → Type 0 where
  -- behind the first token such that no path begins with the tokens up to it
  at_token : (front later : Lexemes) (token : Lexeme) (rest : List ℕ) → TokensAt 0 (chars text) (front ++ token ∷ later) rest → BeginsPath text front
      → ¬ BeginsPath text (front ++ token ∷ []) → RefusedAt text (place_in text (end_of (front ++ token ∷ [])))
  -- behind the first character that begins no token; a quoted text that is not closed goes on to the text's end
  at_character : (front : Lexemes) (c : ℕ) (rest : List ℕ) → TokensAt 0 (chars text) front (c ∷ rest) → BeginsPath text front
      → RefusedAt text (if is_quote c then Eof else place_in text (end_of front + len_utf8 c))
  -- at the text's end, where a path could go on
  at_end : (front : Lexemes) → TokensAt 0 (chars text) front [] → BeginsPath text front → ¬ IsInGrammar text → RefusedAt text Eof
