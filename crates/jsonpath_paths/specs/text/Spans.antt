-- Spans of a text, each a byte position and a byte length.
use Rattle.std.specs.Prelude.{◌≡◌, [], ◌∷◌, ℕ, ◌+◌, ◌≤◌, ◌&&◌, ◌||◌, not, nat_lt, nat_le, Bool, List, All, length, slice_index, if◌then◌else◌}
use Rattle.std.specs.Str.{IsCharBoundary}
use Rattle.jsonpath_paths.specs.text.Characters.{bytes_at}
use Rattle.jsonpath_paths.specs.declared.text.str_reader.StrRange.{StrRange}
use Rattle.jsonpath_paths.specs.declared.token.tokens.Lexeme.{Lexeme}

-- the span lies in the text, and cuts no character
pub record IsSpan (text : List ℕ) (s : StrRange) : Type 0 where
  pub within : s.pos + s.offset ≤ length text
  pub start : IsCharBoundary text s.pos
  pub end : IsCharBoundary text (s.pos + s.offset)

-- the span of each of these tokens lies in the text, and cuts no character
abbrev pub AreSpans : List ℕ → List Lexeme → Type 0
AreSpans text ps = All (λ p. IsSpan text p.span) ps

-- a character begins there, or the text ends
abbrev pub is_boundary : List ℕ → ℕ → Bool
is_boundary bs i = nat_le i (length bs) && (not (nat_lt i (length bs)) || nat_lt (slice_index bs i) 128 || nat_le 192 (slice_index bs i))

-- the bytes at a span; none at one that lies outside the text or cuts a character
unfoldable pub slice_at : List ℕ → StrRange → List ℕ
slice_at source s = if is_boundary source s.pos && is_boundary source (s.pos + s.offset) then bytes_at source s else []

-- these tokens follow one another without a gap, from one byte position to the other
abbrev pub Tile : ℕ → List Lexeme → ℕ → Type 0
Tile from [] to = from ≡ to
Tile from (p ∷ ps) to = (p.span.pos ≡ from) × Tile (from + p.span.offset) ps to
