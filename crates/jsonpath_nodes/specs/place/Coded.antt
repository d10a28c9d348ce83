-- The code of a location, by which proofs tell its values apart.
use Rattle.std.specs.Prelude.{◌≡◌, ℕ, List, ◌⊎◌, refl}
use Rattle.std.specs.Coded.{Coded, code_by, coded_ℕ, coded_list, coded⊎}
use Rattle.std.proofs.Common.{inl, inr}
use Rattle.jsonpath_nodes.specs.place.Location.{Step, name, index, Location}

abbrev to_sum : Step → List ℕ ⊎ ℕ
to_sum (name k) = inl k
to_sum (index i) = inr i

abbrev of_sum : List ℕ ⊎ ℕ → Step
of_sum (inl k) = name k
of_sum (inr i) = index i

abbrev pub step_code : Coded Step
step_code = code_by (List ℕ ⊎ ℕ) (coded⊎ (coded_list coded_ℕ) coded_ℕ) to_sum of_sum (λ s. elim s as (λ t. of_sum (to_sum t) ≡ t) [ name k ↦ refl | index i ↦ refl ])

abbrev pub location_code : Coded Location
location_code = coded_list step_code
