-- Texts of whole numbers.
use Rattle.std.proofs.Common.{◌≡◌, ◌<◌, ◌≤◌, ◌^◌, ℕ, ◌&&◌, true, List, [], ◌∷◌, decimal, get_or, length, refl, sym, ap, ◌∙◌, arith}
use Rattle.std.proofs.lemmas.Fmt.{decimal-digits_value}
use Rattle.std.proofs.lemmas.Str.Parse.{numerals_by_value, tells_all_ascii_digits, digits_value_short}
use Rattle.std.specs.Char.{is_ascii_digit}
use Rattle.std.specs.List.{list_all}
use Rattle.std.specs.Str.{all_ascii_digits}
use Rattle.std.specs.Str.Parse.{digits_value}

all_digits : (s : List ℕ) → all_ascii_digits s ≡ list_all is_ascii_digit s
all_digits [] = refl
all_digits (c ∷ cs) = ap (λ b. is_ascii_digit c && b) (all_digits cs)

-- few digits, of which the first is no zero unless it stands alone, are the text of their number
pub short_whole : (s text : List ℕ) → s ≡ text → 0 < length s → length s ≤ 18 → (get_or s 0 0 ≡ 48 → length s ≤ 1) → list_all is_ascii_digit s ≡ true → (n : ℕ) × (n < 2 ^ 63) × (text ≡ decimal n)
short_whole s text same some few lead digits =
    let own = numerals_by_value (λ t. all_ascii_digits t ≡ true) tells_all_ascii_digits in
    let told = all_digits s ∙ digits in
    let small : digits_value 10 s < 10 ^ 18 = digits_value_short own s 18 told few in
    (digits_value 10 s, omega arith, sym same ∙ sym (decimal-digits_value own s told some (λ zero. let alone = lead zero in omega arith) (omega arith)))
