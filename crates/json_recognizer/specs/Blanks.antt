-- The blanks that JSON has between its parts.
use Rattle.std.specs.Prelude.{ℕ, ◌==◌, ◌||◌, not, List, Bool}
use Rattle.std.specs.List.{list_all, position_or_len}

abbrev pub is_json_whitespace : ℕ → Bool
is_json_whitespace x = (x == 32) || (x == 9) || (x == 10) || (x == 13)

-- there are blanks alone
abbrev pub is_blank_text : List ℕ → Bool
is_blank_text text = list_all is_json_whitespace text

-- how many blanks are in front
abbrev pub blanks_len : List ℕ → ℕ
blanks_len bytes = position_or_len (λ byte. not (is_json_whitespace byte)) bytes
