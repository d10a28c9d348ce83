-- Numbers of a text as `serde_json` reads them: whole ones of 64 bits, and others.
use Rattle.std.specs.Prelude.{◌≡◌, ℕ, List, true, Some}
use Rattle.serde_json.specs.Data.{Num, unsigned, negative}
use Rattle.serde_json.specs.Find.{is_float}
use Rattle.serde_json.specs.Read.{number_of}
use Rattle.json_trees.specs.declared.numbers.whole_number.WholeNumber.{WholeNumber}
use Rattle.json_trees.specs.declared.numbers.whole_number.WholeNumber.TheVariants.{Unsigned, Negative}

abbrev pub whole_num : WholeNumber → Num
whole_num (Unsigned n) = unsigned n
whole_num (Negative z) = negative z

-- what is read of the text, if anything, is a float
abbrev pub IsUnreadNumber : List ℕ → Type 0
IsUnreadNumber s = (n : Num) → number_of s ≡ Some n → is_float n ≡ true
