-- The literals that words spell and that are no numbers.
use Rattle.std.specs.Prelude.{ℕ, Bool, true, false, List, Option, Some, None, if◌then◌else◌, codes}
use Rattle.std.specs.Str.{str_eq_ignore_ascii_case}

-- the words true and false, in any case of their letters
unfoldable pub truth_of : List ℕ → Option Bool
truth_of bs = if str_eq_ignore_ascii_case bs (codes "true") then Some true else (if str_eq_ignore_ascii_case bs (codes "false") then Some false else None)
