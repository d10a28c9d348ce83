-- What orders a number: its digits without zeros at their ends, and the power of ten that 0.DIGITS is multiplied by.
use Rattle.std.specs.Prelude.{codes, ◌≡◌, ◌≢◌, ℕ, ◌+◌, ◌-◌, ◌*◌, ◌^◌, ◌<◌, ◌==◌, ◌⊎◌, ℤ, pos, negsuc, ◌-ℤ◌, ◌+ℤ◌, neg_ℤ, Bool, true, false, List, [], ◌∷◌, ◌++◌, map, length, get_or, drop, replicate, slice_index, if◌then◌else◌}
use Rattle.std.specs.Cmp.Lexicographic.{slice_cmp}
use Rattle.std.specs.Fmt.{signed_decimal}
use Rattle.std.specs.Ordering.{nat_cmp, int_cmp, ordering_then}
use Rattle.std.specs.declared.cmp.Ordering.{Ordering}
use Rattle.std.specs.Str.Parse.{signed_digits_value}
use Rattle.fast_float.specs.Text.{minus, Parts, scan, digits_of, tens_up, tens_down, with_sign, IsWellFormed}
use Rattle.jsonpath_paths.specs.Numbers.{decimal_units}
use Rattle.jsonpath_paths.specs.declared.decimal.Decimal.{Decimal}
use Rattle.json_trees.specs.declared.numbers.number_key.NumberKey.{NumberKey}

-- the power of ten that is written, with its sign
abbrev pub power : Parts → ℤ
power p = if p.exponent_negative then neg_ℤ (signed_digits_value 10 p.exponent) else signed_digits_value 10 p.exponent

abbrev pub zeros : ℕ → List ℕ
zeros n = replicate n 48

-- the digits without the zeros at their end
abbrev pub IsTrailed : List ℕ → List ℕ → Type 0
IsTrailed digits kept = (n : ℕ) × (digits ≡ kept ++ zeros n) × (0 < length kept → get_or kept (length kept - 1) 0 ≢ 48)

-- 0.DIGITS times ten to the exponent is the number, and the digits have no zero at their ends
pub record IsPointed (p : Parts) (digits : List ℕ) (exponent : ℤ) : Type 0 where
  pub lead : ℕ
  pub trail : ℕ
  pub cut : p.whole ++ p.fraction ≡ zeros lead ++ (digits ++ zeros trail)
  pub some : 0 < length digits
  pub first : get_or digits 0 0 ≢ 48
  pub last : get_or digits (length digits - 1) 0 ≢ 48
  pub moved : exponent ≡ (pos (length p.whole) -ℤ pos lead) +ℤ power p

-- each digit taken from 9, and a mark above all digits behind them
abbrev pub turned : List ℕ → List ℕ
turned digits = map (λ d. 105 - d) digits ++ 58 ∷ []

-- above zero the digits and the exponent as they are, below zero turned round
abbrev pub IsPlaced : Bool → List ℕ → ℤ → NumberKey → Type 0
IsPlaced false digits exponent key = (key.side ≡ pos 1) × (key.exponent ≡ exponent) × (key.digits.items ≡ digits)
IsPlaced true digits exponent key = (key.side ≡ negsuc 0) × (key.exponent ≡ neg_ℤ exponent) × (key.digits.items ≡ turned digits)

-- zero, with whatever sign and exponent
abbrev pub IsZeroKey : Parts → NumberKey → Type 0
IsZeroKey p key = (n : ℕ) × (p.whole ++ p.fraction ≡ zeros n) × (key.side ≡ pos 0) × (key.exponent ≡ pos 0) × (key.digits.items ≡ [])

-- the key of a number of these parts, with a minus before it or not
abbrev pub IsKey : Bool → Parts → NumberKey → Type 0
IsKey negative p key = IsZeroKey p key ⊎ ((digits : List ℕ) × (exponent : ℤ) × IsPointed p digits exponent × IsPlaced negative digits exponent key)

abbrev pub IsKeyAs : Bool → List ℕ → NumberKey → Type 0
IsKeyAs true text key = IsKey true (scan (drop 1 text)) key
IsKeyAs false text key = IsKey false (scan text) key

-- the key of the number that a text writes
abbrev pub IsKeyOf : List ℕ → NumberKey → Type 0
IsKeyOf text key = IsKeyAs (slice_index text 0 == minus) text key

-- the order of keys: by the side of zero, then by the exponent, then by the digits
abbrev pub key_cmp : NumberKey → NumberKey → Ordering
key_cmp k l = ordering_then (int_cmp k.side l.side) (ordering_then (int_cmp k.exponent l.exponent) (slice_cmp nat_cmp k.digits.items l.digits.items))

-- whether a text writes a number below zero, or zero with a minus
abbrev pub is_negative : List ℕ → Bool
is_negative text = slice_index text 0 == minus

-- the parts of the numeral that a text writes behind its minus, if it has one
abbrev pub parts_of : List ℕ → Parts
parts_of text = if is_negative text then scan (drop 1 text) else scan text

-- how two numbers compare, each times both powers of ten by which the one or the other is divided: so both are whole
abbrev pub number_cmp : Bool → Parts → Bool → Parts → Ordering
number_cmp m p n q = int_cmp (with_sign m (digits_of p * 10 ^ (tens_up p + tens_down q))) (with_sign n (digits_of q * 10 ^ (tens_up q + tens_down p)))

-- how the numbers that two texts write compare
abbrev pub text_cmp : List ℕ → List ℕ → Ordering
text_cmp s t = number_cmp (is_negative s) (parts_of s) (is_negative t) (parts_of t)

-- the numerals write one number: each is its digits' number times ten to one power, divided by ten to another
abbrev pub IsSameNumber : Parts → Parts → Type 0
IsSameNumber p q = digits_of p * 10 ^ (tens_up p + tens_down q) ≡ digits_of q * 10 ^ (tens_up q + tens_down p)

abbrev pub IsSameKey : NumberKey → NumberKey → Type 0
IsSameKey k l = (k.side ≡ l.side) × (k.exponent ≡ l.exponent) × (k.digits.items ≡ l.digits.items)

-- one number has one key, whatever zeros, point and exponent it is written with
abbrev pub OneKey : Type 0
OneKey = (negative : Bool) (p q : Parts) (k l : NumberKey) → IsWellFormed p → IsWellFormed q → IsSameNumber p q → IsKey negative p k → IsKey negative q l → IsSameKey k l

-- a literal of a path, as a text writes it
abbrev pub literal_text : Decimal → List ℕ
literal_text d = signed_decimal (decimal_units d) ++ codes "e-18"
