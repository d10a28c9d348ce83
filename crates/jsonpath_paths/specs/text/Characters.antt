-- The characters of a path text, and what a word or a quoted text means.
use Rattle.std.specs.Prelude.{◌≡◌, ℕ, ◌+◌, ◌-◌, Bool, not, ◌||◌, ◌==◌, if◌then◌else◌, List, [], ◌∷◌, length, take, drop, refl}
use Rattle.std.specs.Char.{is_whitespace, len_utf8, encode_utf8}
use Rattle.std.specs.Str.{encode_utf8_all}
use Rattle.std.proofs.Common.{ap, sym, ◌∙◌, length-append}
use Rattle.std.proofs.lemmas.Str.{length-encode}
use Rattle.jsonpath_paths.specs.declared.text.str_reader.StrRange.{StrRange}

-- how many bytes the characters take
abbrev pub byte_len : List ℕ → ℕ
byte_len [] = 0
byte_len (c ∷ cs) = len_utf8 c + byte_len cs

-- how many bytes the characters take is the length of their UTF-8
pub byte_len_is : (cs : List ℕ) → byte_len cs ≡ length (encode_utf8_all cs)
byte_len_is [] = refl
byte_len_is (c ∷ cs) =
    ap (λ n. len_utf8 c + n) (byte_len_is cs) ∙ ap (λ n. n + length (encode_utf8_all cs)) (sym (length-encode c)) ∙ sym (length-append (encode_utf8 c) (encode_utf8_all cs))

-- each answer that a call may give at a character is the test's
abbrev pub Computes : (ℕ → Bool → Type 0) → (ℕ → Bool) → Type 0
Computes answers test = (c : ℕ) (b : Bool) → answers c b → b ≡ test c

-- the bytes at a span
abbrev pub bytes_at : List ℕ → StrRange → List ℕ
bytes_at text s = take s.offset (drop s.pos text)

abbrev pub dollar : ℕ
dollar = 36

abbrev pub backslash : ℕ
backslash = 92

abbrev pub double_quote : ℕ
double_quote = 34

abbrev pub single_quote : ℕ
single_quote = 39

abbrev pub is_quote : ℕ → Bool
is_quote c = c == double_quote || c == single_quote

-- the stop characters: . * [ ] ( ) @ ? , : < > = & | ! and blanks
abbrev pub is_stop_character : ℕ → Bool
is_stop_character c = c == 46 || c == 42 || c == 91 || c == 93 || c == 40 || c == 41 || c == 64 || c == 63 || c == 44 || c == 58
    || c == 60 || c == 62 || c == 61 || c == 38 || c == 124 || c == 33 || is_whitespace c

abbrev pub is_no_stop : ℕ → Bool
is_no_stop c = not (is_stop_character c)

-- the characters that may stand in a word that does not begin with a dollar sign
abbrev pub goes_on : ℕ → Bool
goes_on c = not (is_stop_character c || c == dollar)

-- the characters without the backslashes, the character behind each as it is
abbrev pub unescaped : List ℕ → List ℕ
unescaped [] = []
unescaped (c ∷ []) = c ∷ []
unescaped (c ∷ d ∷ cs) = if c == backslash then d ∷ unescaped cs else c ∷ unescaped (d ∷ cs)

-- The characters of the name or text that is meant: a word means itself, and a quoted text what stands between its
-- quotes without the backslashes.
abbrev pub name_of : List ℕ → List ℕ
name_of [] = []
name_of (c ∷ cs) = if is_quote c then unescaped (take (length cs - 1) cs) else c ∷ cs
