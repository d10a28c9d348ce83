-- The tokens of a text, one after another, with their spans.
use Rattle.std.specs.Prelude.{◌≡◌, ℕ, ◌+◌, List, [], ◌∷◌, take, drop}
use Rattle.jsonpath_paths.specs.token.Kinds.{IsFirst, HasNone}
use Rattle.jsonpath_paths.specs.text.TextPlace.{Place, ahead, past, span_to}
use Rattle.jsonpath_paths.specs.text.Characters.{byte_len}
use Rattle.jsonpath_paths.specs.declared.text.str_reader.StrRange.{StrRange}
use Rattle.jsonpath_paths.specs.declared.token.tokens.Kind.{Kind}
use Rattle.jsonpath_paths.specs.declared.token.tokens.Kind.TheVariants as k
use Rattle.jsonpath_paths.specs.declared.token.tokens.Lexeme.{Lexeme}
use Rattle.jsonpath_paths.specs.declared.token.tokens.Token.{Token}
use Rattle.jsonpath_paths.specs.declared.token.tokens.Token.TheVariants as t

-- a token by its kind and its span, which has these characters and begins at this byte
abbrev pub lexeme : Kind → ℕ → List ℕ → Lexeme
lexeme kind pos cs = record { kind = kind; span = record { pos = pos; offset = byte_len cs } }

-- The characters from a byte position on are these tokens and a rest. Each token is the longest front that is a token,
-- and the rest has no front that is one.
pub data TokensAt : ℕ → List ℕ → List Lexeme → List ℕ → Type 0 where
  no_token : {pos : ℕ} {cs : List ℕ} → HasNone cs → TokensAt pos cs [] cs
  one_token : {pos : ℕ} {cs rest : List ℕ} {kind : Kind} {ps : List Lexeme} (n : ℕ) → IsFirst cs kind n
      → TokensAt (pos + byte_len (take n cs)) (drop n cs) ps rest → TokensAt pos cs (lexeme kind pos (take n cs) ∷ ps) rest

-- the token of a kind at a span
abbrev pub token : Kind → StrRange → Token
token k.Absolute s = t.Absolute s
token k.Dot s = t.Dot s
token k.At s = t.At s
token k.OpenArray s = t.OpenArray s
token k.CloseArray s = t.CloseArray s
token k.Asterisk s = t.Asterisk s
token k.Question s = t.Question s
token k.Comma s = t.Comma s
token k.Split s = t.Split s
token k.OpenParenthesis s = t.OpenParenthesis s
token k.CloseParenthesis s = t.CloseParenthesis s
token k.Key s = t.Key s
token k.DoubleQuoted s = t.DoubleQuoted s
token k.SingleQuoted s = t.SingleQuoted s
token k.Equal s = t.Equal s
token k.GreaterOrEqual s = t.GreaterOrEqual s
token k.Greater s = t.Greater s
token k.Little s = t.Little s
token k.LittleOrEqual s = t.LittleOrEqual s
token k.NotEqual s = t.NotEqual s
token k.And s = t.And s
token k.Or s = t.Or s
token k.Whitespace s = t.Whitespace s

-- the kind of a token
abbrev pub kind_of : Token → Kind
kind_of (t.Absolute s) = k.Absolute
kind_of (t.Dot s) = k.Dot
kind_of (t.At s) = k.At
kind_of (t.OpenArray s) = k.OpenArray
kind_of (t.CloseArray s) = k.CloseArray
kind_of (t.Asterisk s) = k.Asterisk
kind_of (t.Question s) = k.Question
kind_of (t.Comma s) = k.Comma
kind_of (t.Split s) = k.Split
kind_of (t.OpenParenthesis s) = k.OpenParenthesis
kind_of (t.CloseParenthesis s) = k.CloseParenthesis
kind_of (t.Key s) = k.Key
kind_of (t.DoubleQuoted s) = k.DoubleQuoted
kind_of (t.SingleQuoted s) = k.SingleQuoted
kind_of (t.Equal s) = k.Equal
kind_of (t.GreaterOrEqual s) = k.GreaterOrEqual
kind_of (t.Greater s) = k.Greater
kind_of (t.Little s) = k.Little
kind_of (t.LittleOrEqual s) = k.LittleOrEqual
kind_of (t.NotEqual s) = k.NotEqual
kind_of (t.And s) = k.And
kind_of (t.Or s) = k.Or
kind_of (t.Whitespace s) = k.Whitespace

-- where a token stands
abbrev pub span_of : Token → StrRange
span_of (t.Absolute s) = s
span_of (t.Dot s) = s
span_of (t.At s) = s
span_of (t.OpenArray s) = s
span_of (t.CloseArray s) = s
span_of (t.Asterisk s) = s
span_of (t.Question s) = s
span_of (t.Comma s) = s
span_of (t.Split s) = s
span_of (t.OpenParenthesis s) = s
span_of (t.CloseParenthesis s) = s
span_of (t.Key s) = s
span_of (t.DoubleQuoted s) = s
span_of (t.SingleQuoted s) = s
span_of (t.Equal s) = s
span_of (t.GreaterOrEqual s) = s
span_of (t.Greater s) = s
span_of (t.Little s) = s
span_of (t.LittleOrEqual s) = s
span_of (t.NotEqual s) = s
span_of (t.And s) = s
span_of (t.Or s) = s
span_of (t.Whitespace s) = s

-- From one place the token is taken, and the other is behind it: so many characters are the longest front that is a token.
pub record TakesToken (from : Place) (t : Token) (to : Place) : Type 0 where
  pub count : ℕ
  pub longest : IsFirst (ahead from) (kind_of t) count
  pub behind : to ≡ past from (take count (ahead from))
  pub spanned : span_of t ≡ span_to from to
