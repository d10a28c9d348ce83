-- Which texts are tokens of a kind, and which front of a text is its first token.
use Rattle.std.specs.Prelude.{◌≡◌, ℕ, ◌≤◌, ◌==◌, Bool, true, false, not, ◌&&◌, ◌||◌, if◌then◌else◌, List, [], ◌∷◌, length, take, codes}
use Rattle.std.specs.Char.{is_whitespace}
use Rattle.std.specs.Str.{bytes_eq}
use Rattle.jsonpath_paths.specs.text.Characters.{dollar, backslash, double_quote, single_quote, is_quote, is_stop_character, is_no_stop, goes_on}
use Rattle.jsonpath_paths.specs.declared.token.tokens.Kind.{Kind}
use Rattle.jsonpath_paths.specs.declared.token.tokens.Kind.TheVariants as k

-- each character passes the test
abbrev pub all_pass : (ℕ → Bool) → List ℕ → Bool
all_pass test [] = true
all_pass test (c ∷ cs) = test c && all_pass test cs

-- What stands behind the first quote of a quoted text: up to the next quote of its kind, which ends it. The character
-- behind a backslash is taken as it is.
abbrev pub closed : ℕ → List ℕ → Bool
closed quote [] = false
closed quote (c ∷ []) = c == quote
closed quote (c ∷ d ∷ cs) = if c == quote then false else (if c == backslash then closed quote cs else closed quote (d ∷ cs))

-- a quoted text, with both its quotes
abbrev pub is_quoted : ℕ → List ℕ → Bool
is_quoted quote [] = false
is_quoted quote (c ∷ cs) = c == quote && closed quote cs

-- one blank or more
abbrev pub is_blank : List ℕ → Bool
is_blank [] = false
is_blank (c ∷ cs) = is_whitespace c && all_pass is_whitespace cs

-- what stands behind a dollar sign that begins a word: one character or more, and further dollar signs among them
abbrev pub dollar_goes_on : List ℕ → Bool
dollar_goes_on [] = false
dollar_goes_on (c ∷ cs) = is_no_stop c && all_pass is_no_stop cs

-- what a word begins with no more than with a stop character: a dollar sign (those words have a rule of their own) or a quote
abbrev pub begins_none : ℕ → Bool
begins_none c = is_stop_character c || c == dollar || is_quote c

-- a word: a dollar sign and what follows it, or characters up to a stop character or a dollar sign
abbrev pub is_word : List ℕ → Bool
is_word [] = false
is_word (c ∷ cs) = if c == dollar then dollar_goes_on cs else not (begins_none c) && all_pass goes_on cs

-- a word or a quoted text
abbrev pub is_name : List ℕ → Bool
is_name cs = is_word cs || (is_quoted double_quote cs || is_quoted single_quote cs)

-- where a word ends: at the end of the text, or before a character that no word goes on with
abbrev pub ends_word : List ℕ → Bool
ends_word [] = true
ends_word (c ∷ cs) = not (goes_on c)

-- the texts that are tokens of a kind
abbrev pub is_token : Kind → List ℕ → Bool
is_token k.Key cs = is_word cs
is_token k.Whitespace cs = is_blank cs
is_token k.DoubleQuoted cs = is_quoted double_quote cs
is_token k.SingleQuoted cs = is_quoted single_quote cs
is_token k.Absolute cs = bytes_eq cs (codes "$")
is_token k.Dot cs = bytes_eq cs (codes ".")
is_token k.At cs = bytes_eq cs (codes "@")
is_token k.OpenArray cs = bytes_eq cs (codes "[")
is_token k.CloseArray cs = bytes_eq cs (codes "]")
is_token k.Asterisk cs = bytes_eq cs (codes "*")
is_token k.Question cs = bytes_eq cs (codes "?")
is_token k.Comma cs = bytes_eq cs (codes ",")
is_token k.Split cs = bytes_eq cs (codes ":")
is_token k.OpenParenthesis cs = bytes_eq cs (codes "(")
is_token k.CloseParenthesis cs = bytes_eq cs (codes ")")
is_token k.Equal cs = bytes_eq cs (codes "==")
is_token k.GreaterOrEqual cs = bytes_eq cs (codes ">=")
is_token k.Greater cs = bytes_eq cs (codes ">")
is_token k.Little cs = bytes_eq cs (codes "<")
is_token k.LittleOrEqual cs = bytes_eq cs (codes "<=")
is_token k.NotEqual cs = bytes_eq cs (codes "!=")
is_token k.And cs = bytes_eq cs (codes "&&")
is_token k.Or cs = bytes_eq cs (codes "||")

-- both are this one kind
abbrev pub same_kind : Kind → Kind → Bool
same_kind k.Absolute k.Absolute = true
same_kind k.Dot k.Dot = true
same_kind k.At k.At = true
same_kind k.OpenArray k.OpenArray = true
same_kind k.CloseArray k.CloseArray = true
same_kind k.Asterisk k.Asterisk = true
same_kind k.Question k.Question = true
same_kind k.Comma k.Comma = true
same_kind k.Split k.Split = true
same_kind k.OpenParenthesis k.OpenParenthesis = true
same_kind k.CloseParenthesis k.CloseParenthesis = true
same_kind k.Key k.Key = true
same_kind k.DoubleQuoted k.DoubleQuoted = true
same_kind k.SingleQuoted k.SingleQuoted = true
same_kind k.Equal k.Equal = true
same_kind k.GreaterOrEqual k.GreaterOrEqual = true
same_kind k.Greater k.Greater = true
same_kind k.Little k.Little = true
same_kind k.LittleOrEqual k.LittleOrEqual = true
same_kind k.NotEqual k.NotEqual = true
same_kind k.And k.And = true
same_kind k.Or k.Or = true
same_kind k.Whitespace k.Whitespace = true
same_kind _ _ = false

-- This many characters at the front are a token of this kind, and no longer front is a token, nor this one of another kind.
pub record IsFirst (cs : List ℕ) (kind : Kind) (n : ℕ) : Type 0 where
  pub token : is_token kind (take n cs) ≡ true
  pub within : n ≤ length cs
  pub longest : (other : Kind) (m : ℕ) → m ≤ length cs → is_token other (take m cs) ≡ true → (m ≤ n) × (m ≡ n → other ≡ kind)

-- no front is a token
abbrev pub HasNone : List ℕ → Type 0
HasNone cs = (kind : Kind) (m : ℕ) → m ≤ length cs → is_token kind (take m cs) ≡ true → ⊥
