-- Places in a text, by the bytes before them.
use Rattle.std.specs.Prelude.{ℕ, ◌+◌, ◌-◌, List, drop, refl}
use Rattle.std.specs.Coded.{Coded, code_by, coded×, coded_ℕ, coded_list}
use Rattle.std.specs.Str.{chars}
use Rattle.jsonpath_paths.specs.text.Characters.{byte_len}
use Rattle.jsonpath_paths.specs.declared.text.str_reader.StrRange.{StrRange}

-- a text, and how many of its bytes stand before the place
pub record Place : Type 0 where
  pub text : List ℕ
  pub pos : ℕ

abbrev pub place_code : Coded Place
place_code = code_by (List ℕ × ℕ) (coded× (coded_list coded_ℕ) coded_ℕ) (λ p. (p.text, p.pos)) (λ p. record { text = p.0; pos = p.1 }) (λ _. refl)

-- the characters from the place on
unfoldable pub ahead : Place → List ℕ
ahead p = chars (drop p.pos p.text)

-- the place behind these characters
abbrev pub past : Place → List ℕ → Place
past p cs = record p { pos = p.pos + byte_len cs }

-- what lies between two places
abbrev pub span_to : Place → Place → StrRange
span_to from to = record { pos = from.pos; offset = to.pos - from.pos }
