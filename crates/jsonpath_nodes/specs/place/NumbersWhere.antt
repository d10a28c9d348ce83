-- Numbers of the locations of a list that pass a test.
use Rattle.std.specs.Prelude.{ℕ, suc, Bool, List, [], ◌∷◌, if◌then◌else◌}
use Rattle.jsonpath_nodes.specs.place.Location.{Location}

-- the numbers, from n on, of those that pass
abbrev pub numbers_where : (Location → Bool) → ℕ → List Location → List ℕ
numbers_where test n [] = []
numbers_where test n (l ∷ ls) = if test l then n ∷ numbers_where test (suc n) ls else numbers_where test (suc n) ls
