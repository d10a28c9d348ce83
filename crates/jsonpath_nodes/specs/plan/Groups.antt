-- Locations that stand side by side because they go through one step.
use Rattle.std.specs.Prelude.{ℕ, List, [], ◌∷◌, Bool, false, Option, Some, None, map, drop, nat_lt}
use Rattle.std.specs.Bool.{then_some}
use Rattle.std.specs.List.{prefix_len}
use Rattle.jsonpath_nodes.specs.place.Location.{Step, name, index, Location}
use Rattle.jsonpath_nodes.specs.update.Topmost.{same_step}

-- the locations as seen from so many steps on
abbrev pub beyond : ℕ → List Location → List Location
beyond depth ls = map (drop depth) ls

-- whether a location begins with a step
abbrev pub goes_through : Step → Location → Bool
goes_through s [] = false
goes_through s (t ∷ l) = same_step t s

-- how many of the locations at the front begin with a step
abbrev pub leading : Step → List Location → ℕ
leading s ls = prefix_len (goes_through s) ls

-- how many of the locations at the front begin as the first of them does
abbrev pub group_len : List Location → ℕ
group_len [] = 0
group_len ([] ∷ ls) = 0
group_len ((s ∷ l) ∷ ls) = leading s ((s ∷ l) ∷ ls)

-- the index, of those below n, that a location begins with
abbrev pub first_index : ℕ → Location → Option ℕ
first_index n [] = None
first_index n (name k ∷ l) = None
first_index n (index i ∷ l) = then_some (nat_lt i n) i

-- the name that a location begins with
abbrev pub first_name : Location → Option (List ℕ)
first_name [] = None
first_name (name k ∷ l) = Some k
first_name (index i ∷ l) = None
