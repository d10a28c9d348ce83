-- The place of a refusal, by the tokens that are left and the characters behind all tokens.
use Rattle.std.specs.Prelude.{ℕ, ◌+◌, if◌then◌else◌, List, [], ◌∷◌}
use Rattle.std.specs.Char.{len_utf8}
use Rattle.jsonpath_paths.specs.Grammar.{Lexemes}
use Rattle.jsonpath_paths.specs.RefusedAt.{place_in}
use Rattle.jsonpath_paths.specs.text.Characters.{is_quote}
use Rattle.jsonpath_paths.specs.text.TextPlace.{Place, ahead}
use Rattle.jsonpath_paths.specs.declared.token.tokens.TokenError.{TokenError}
use Rattle.jsonpath_paths.specs.declared.token.tokens.TokenError.TheVariants.{Eof}

-- behind the first of these characters, which begin at this byte; a quoted text that is not closed goes on to the end
abbrev pub behind_character : List ℕ → ℕ → List ℕ → TokenError
behind_character text pos [] = Eof
behind_character text pos (c ∷ cs) = if is_quote c then Eof else place_in text (pos + len_utf8 c)

-- behind the first of these tokens, or, if there is none, behind the character at the place
abbrev pub refused_place : List ℕ → Lexemes → Place → TokenError
refused_place text [] stop = behind_character text stop.pos (ahead stop)
refused_place text (t ∷ ts) stop = place_in text (t.span.pos + t.span.offset)
