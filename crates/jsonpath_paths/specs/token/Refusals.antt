-- What a call that takes a token answers where there is none, and how far in the text a refusal may point. Where a path text is
-- refused is in RefusedAt.
use Rattle.std.specs.Prelude.{ℕ, ◌≤◌, if◌then◌else◌, List, [], ◌∷◌}
use Rattle.jsonpath_paths.specs.text.Characters.{is_quote}
use Rattle.jsonpath_paths.specs.declared.token.tokens.TokenError.{TokenError}
use Rattle.jsonpath_paths.specs.declared.token.tokens.TokenError.TheVariants.{Eof, Position, OutOfMemory}

-- The refusal where no token begins at this byte position, with these characters ahead: the text's end, if there are none,
-- or one alone, or they begin with the quote of a text that is not closed; else the position.
abbrev pub fault : ℕ → List ℕ → TokenError
fault pos [] = Eof
fault pos (c ∷ []) = Eof
fault pos (c ∷ d ∷ cs) = if is_quote c then Eof else Position pos

-- a refusal of a text of this length: its end, or a position in it; no want of memory
abbrev pub MatchPlace : TokenError → ℕ → Type 0
MatchPlace Eof most = Unit {0}
MatchPlace (Position n) most = n ≤ most
MatchPlace OutOfMemory most = ⊥
