-- Locations that ascend with none of them below another.
use Rattle.std.specs.Prelude.{◌≡◌, ⊤, List, [], ◌∷◌, Bool, true, false}
use Rattle.std.specs.Ordering.{match_ordering}
use Rattle.jsonpath_nodes.specs.place.Location.{Location, step_cmp}

-- the two differ at some step, and there the first one's step comes first
abbrev pub first_difference_ascends : Location → Location → Bool
first_difference_ascends [] m = false
first_difference_ascends (s ∷ l) [] = false
first_difference_ascends (s ∷ l) (t ∷ m) = match_ordering (step_cmp s t) true (first_difference_ascends l m) false

-- each comes apart before the next, l before them all
abbrev pub AscendFrom : Location → List Location → Type 0
AscendFrom l [] = ⊤
AscendFrom l (m ∷ ls) = (first_difference_ascends l m ≡ true) × AscendFrom m ls

abbrev pub Ascend : List Location → Type 0
Ascend [] = ⊤
Ascend (l ∷ ls) = AscendFrom l ls
