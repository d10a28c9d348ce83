-- A text whose control characters are escaped.
use Rattle.std.specs.Prelude.{◌≡◌, ℕ, ◌/◌, ◌%◌, Bool, false, ◌||◌, ◌&&◌, ◌==◌, nat_le, nat_lt, if◌then◌else◌, List, [], ◌∷◌, flat_map}
use Rattle.std.specs.Char.{digit_char}
use Rattle.std.specs.List.{list_any}
use Rattle.std.specs.Str.{chars, encode_utf8_all, IsUtf8}

-- a control character of Unicode: below the blank, or from DEL to the last of C1
abbrev pub is_control : ℕ → Bool
is_control c = nat_lt c 32 || (nat_le 127 c && nat_lt c 160)

-- `\t`, `\n`, `\r`, or `\u00` and two hexadecimal digits
abbrev pub escape : ℕ → List ℕ
escape c = if c == 9 then 92 ∷ 116 ∷ [] else (if c == 10 then 92 ∷ 110 ∷ [] else (if c == 13 then 92 ∷ 114 ∷ []
    else 92 ∷ 117 ∷ 48 ∷ 48 ∷ digit_char ((c / 16) % 16) ∷ digit_char (c % 16) ∷ []))

abbrev pub printable_char : ℕ → List ℕ
printable_char c = if is_control c then escape c else c ∷ []

abbrev pub printable_chars : List ℕ → List ℕ
printable_chars cs = flat_map printable_char cs

-- a text with each control character escaped
abbrev pub printable : List ℕ → List ℕ
printable text = encode_utf8_all (printable_chars (chars text))

-- a control character is among these
abbrev pub has_control : List ℕ → Bool
has_control cs = list_any is_control cs

-- no control character of a text is left, and a text without one is as it was
abbrev pub EscapesHold : Type 0
EscapesHold = (text : List ℕ) → IsUtf8 text → (has_control (printable_chars (chars text)) ≡ false) × (has_control (chars text) ≡ false → printable text ≡ text)
