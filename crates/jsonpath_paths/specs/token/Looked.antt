-- What a reader of tokens shows.
use Rattle.std.specs.Prelude.{◌≡◌, ℕ, length, if◌then◌else◌, ◌==◌, refl}
use Rattle.std.specs.Coded.{Coded, code_by, coded×, coded_ℕ}
use Rattle.jsonpath_paths.specs.text.TextPlace.{Place, place_code}
use Rattle.jsonpath_paths.specs.token.Tokens.{TakesToken}
use Rattle.jsonpath_paths.specs.declared.token.tokens.Token.{Token}
use Rattle.jsonpath_paths.specs.declared.token.token_reader.TokenReader.TheInside.{Inside}
use Rattle.jsonpath_paths.specs.declared.token.tokens.TokenError.{TokenError}
use Rattle.jsonpath_paths.specs.declared.token.tokens.TokenError.TheVariants.{Eof, Position}

-- a place in a text, and where all that was read or looked at ends
pub record Looked : Type 0 where
  pub place : Place
  pub seen : ℕ

abbrev pub looked_code : Coded Looked
looked_code = code_by (Place × ℕ) (coded× place_code coded_ℕ) (λ l. (l.place, l.seen)) (λ p. record { place = p.0; seen = p.1 }) (λ _. refl)

abbrev pub looked_of : Inside → Looked
looked_of r = record { place = r.tokenizer; seen = r.seen }

-- the error at the end of what was read or looked at
abbrev pub error_at_end : Looked → TokenError
error_at_end l = if l.seen == length l.place.text then Eof else Position l.seen

-- the token that would be taken from the place on; it ends before this byte
pub record LooksAt (from : Place) (t : Token) (seen : ℕ) : Type 0 where
  pub behind : Place
  pub takes : TakesToken from t behind
  pub end : seen ≡ behind.pos
