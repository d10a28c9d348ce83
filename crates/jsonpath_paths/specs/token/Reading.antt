-- The tokens of a text, found from left to right: how the code reads what `Kinds` and `Tokens` define.
use Rattle.std.specs.Prelude.{ℕ, zero, suc, ◌+◌, ◌-◌, ◌==◌, if◌then◌else◌, List, [], ◌∷◌, take, Option, Some, None, option_map}
use Rattle.std.specs.Char.{is_whitespace}
use Rattle.std.specs.List.{prefix_len}
use Rattle.jsonpath_paths.specs.text.Characters.{byte_len, dollar, backslash, is_no_stop, goes_on}
use Rattle.jsonpath_paths.specs.token.Tokens.{lexeme}
use Rattle.jsonpath_paths.specs.declared.token.tokens.Kind.{Kind}
use Rattle.jsonpath_paths.specs.declared.token.tokens.Kind.TheVariants as k
use Rattle.jsonpath_paths.specs.declared.token.tokens.Lexeme.{Lexeme}

-- How many characters a quoted text takes behind its first quote. A backslash guards the character behind it.
abbrev pub closing : ℕ → List ℕ → Option ℕ
closing quote [] = None
closing quote (c ∷ []) = if c == quote then Some 1 else None
closing quote (c ∷ d ∷ cs) =
    if c == quote then Some 1 else (if c == backslash then option_map (λ n. 2 + n) (closing quote cs) else option_map (λ n. 1 + n) (closing quote (d ∷ cs)))

abbrev pub quoted_lexeme : Kind → ℕ → List ℕ → Option (Kind × ℕ)
quoted_lexeme kind quote cs = option_map (λ n. (kind, 1 + n)) (closing quote cs)

-- a dollar sign alone, or a word that begins with it
abbrev pub dollar_word : List ℕ → Option (Kind × ℕ)
dollar_word cs = let n = prefix_len is_no_stop cs in Some (if n == 0 then (k.Absolute, 1) else (k.Key, 1 + n))

-- two characters, the second of which is this one
abbrev pub two_characters : Kind → ℕ → List ℕ → Option (Kind × ℕ)
two_characters kind second [] = None
two_characters kind second (c ∷ cs) = if c == second then Some (kind, 2) else None

-- one character, or two where an equals sign follows
abbrev pub optional_equals : Kind → Kind → List ℕ → Option (Kind × ℕ)
optional_equals alone with_equal [] = Some (alone, 1)
optional_equals alone with_equal (c ∷ cs) = if c == 61 then Some (with_equal, 2) else Some (alone, 1)

-- blanks, or a word
abbrev pub blanks_or_word : ℕ → List ℕ → Option (Kind × ℕ)
blanks_or_word c cs = Some (if is_whitespace c then (k.Whitespace, 1 + prefix_len is_whitespace cs) else (k.Key, 1 + prefix_len goes_on cs))

-- a character that is a token by itself
abbrev pub single_character_kind : ℕ → Option Kind
single_character_kind c =
    if c == 46 then Some k.Dot else (if c == 42 then Some k.Asterisk else (if c == 91 then Some k.OpenArray else (if c == 93 then Some k.CloseArray
    else (if c == 40 then Some k.OpenParenthesis else (if c == 41 then Some k.CloseParenthesis else (if c == 64 then Some k.At else (if c == 63 then Some k.Question
    else (if c == 44 then Some k.Comma else (if c == 58 then Some k.Split else None)))))))))

abbrev pub operator_blanks_or_word : ℕ → List ℕ → Option (Kind × ℕ)
operator_blanks_or_word c cs =
    if c == 61 then two_characters k.Equal 61 cs
    else (if c == 33 then two_characters k.NotEqual 61 cs
    else (if c == 38 then two_characters k.And 38 cs
    else (if c == 124 then two_characters k.Or 124 cs
    else (if c == 62 then optional_equals k.Greater k.GreaterOrEqual cs
    else (if c == 60 then optional_equals k.Little k.LittleOrEqual cs
    else blanks_or_word c cs)))))

abbrev pub several_character_lexeme : ℕ → List ℕ → Option (Kind × ℕ)
several_character_lexeme c cs =
    if c == dollar then dollar_word cs
    else (if c == 34 then quoted_lexeme k.DoubleQuoted 34 cs
    else (if c == 39 then quoted_lexeme k.SingleQuoted 39 cs
    else operator_blanks_or_word c cs))

abbrev pub by_single_character : Option Kind → ℕ → List ℕ → Option (Kind × ℕ)
by_single_character (Some kind) c cs = Some (kind, 1)
by_single_character None c cs = several_character_lexeme c cs

abbrev pub lexeme_beginning_with : ℕ → List ℕ → Option (Kind × ℕ)
lexeme_beginning_with c cs = by_single_character (single_character_kind c) c cs

unfoldable pub first : List ℕ → Option (Kind × ℕ)
first [] = None
first (c ∷ cs) = lexeme_beginning_with c cs

-- The lexemes from a byte position on, and the characters at whose front there is none.
pub record Reading : Type 0 where
  pub lexemes : List Lexeme
  pub rest : List ℕ

abbrev pub and_then : Lexeme → Reading → Reading
and_then p r = record r { lexemes = p ∷ r.lexemes }

-- a lexeme of so many characters, where one was found, and what follows it
abbrev pub with_lexeme : Option (Kind × ℕ) → ℕ → List ℕ → (ℕ → ℕ → Reading) → Reading
with_lexeme None pos cs more = record { lexemes = []; rest = cs }
with_lexeme (Some f) pos cs more = let cut = take f.1 cs in and_then (lexeme f.0 pos cut) (more (f.1 - 1) (pos + byte_len cut))

-- the lexemes from a byte position on; the first number counts the characters that are left of a lexeme already found
abbrev pub reading_from : ℕ → ℕ → List ℕ → Reading
reading_from left pos [] = record { lexemes = []; rest = [] }
reading_from (suc left) pos (c ∷ cs) = reading_from left pos cs
reading_from zero pos (c ∷ cs) = with_lexeme (lexeme_beginning_with c cs) pos (c ∷ cs) (λ left next. reading_from left next cs)
