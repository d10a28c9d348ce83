-- A way along a tree's values from its root.
use Rattle.std.specs.Prelude.{◌≡◌, ℕ, zero, suc, List, [], ◌∷◌, map, Option, Some, None}
use Rattle.json.specs.Json.{Json}
use Rattle.json.specs.Value.{value_view}
use Rattle.jsonpath_nodes.specs.place.Location.{Step}
use Rattle.jsonpath_nodes.specs.place.SpotPlace.{step_of}
use Rattle.json_trees.specs.ExactAt.{exact_child}
use Rattle.json_trees.specs.declared.ordered_tree.way.Passed.{Passed}
use Rattle.json_trees.specs.declared.ordered_tree.way.Way.{Way}

-- the values to which the steps lead, one after the other
abbrev pub values_along : Option Json → List Step → List (Option Json)
values_along from [] = []
values_along None (s ∷ l) = None ∷ values_along None l
values_along (Some j) (s ∷ l) = exact_child s j ∷ values_along (exact_child s j) l

-- each value is the one to which its step leads from the value before it, the first from `j`
abbrev pub Leads : Json → List (Step × Json) → Type 0
Leads j ps = values_along (Some j) (map (λ p. p.0) ps) ≡ map (λ p. Some p.1) ps

-- the last of the first values, so many, or `j` where there are none
abbrev pub last_of : Json → List (Step × Json) → ℕ → Json
last_of j ps zero = j
last_of j [] (suc n) = j
last_of j (p ∷ ps) (suc n) = last_of p.1 ps n

-- the same, where the first values, so many, lead to `here`
abbrev pub LeadsTo : Json → List (Step × Json) → ℕ → Json → Type 0
LeadsTo j ps zero here = (j ≡ here) × Leads j ps
LeadsTo j [] (suc n) here = ⊥
LeadsTo j (p ∷ ps) (suc n) here = (exact_child p.0 j ≡ Some p.1) × LeadsTo p.1 ps n here

abbrev pub passed_view : Passed → Step × Json
passed_view p = (step_of p.step, value_view p.value.value.now)

-- the values passed lead from this root
abbrev pub IsWayFrom : Json → Way → Type 0
IsWayFrom root way = Leads root (map passed_view way.passed.items)
