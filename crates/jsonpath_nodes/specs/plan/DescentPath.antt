-- The path of a descent: where it began, the steps down from there, and what of it is shared; by the bytes of names.
use Rattle.std.specs.Prelude.{◌≡◌, ℕ, List, [], ◌∷◌, ◌++◌, map}
use Rattle.jsonpath_nodes.specs.place.Location.{Step, Location}
use Rattle.jsonpath_nodes.specs.place.SpotPlace.{location_at, held_path_location}
use Rattle.jsonpath_nodes.specs.plan.Way.{down_step}
use Rattle.jsonpath_nodes.specs.declared.place.trail.HeldPathToContainer.{HeldPathToContainer}
use Rattle.jsonpath_nodes.specs.declared.step.descends.DownStep.{DownStep}
use Rattle.jsonpath_nodes.specs.declared.step.descend.descent_path.SharedPath.{SharedPath}

-- where steps down lead from a location
abbrev pub location_after : {N : Type 0} → (N → List ℕ) → Location → List (DownStep N) → Location
location_after bytes l steps = l ++ map (down_step bytes) steps

abbrev pub descent_location : {N : Type 0} → (N → List ℕ) → SharedPath N → Location
descent_location bytes t = location_after bytes (location_at bytes t.start) t.steps.items

abbrev pub start_and_steps : {N : Type 0} → (N → List ℕ) → SharedPath N → Location × List Step
start_and_steps bytes t = (location_at bytes t.start, map (down_step bytes) t.steps.items)

-- what is held first leads to the location, and each further one a step further than the one before
abbrev pub LeadAlong : {N : Type 0} → (N → List ℕ) → Location → List (DownStep N) → List (HeldPathToContainer N) → Type 0
LeadAlong bytes l steps [] = Unit {0}
LeadAlong bytes l [] (t ∷ ts) = (held_path_location bytes t ≡ l) × (ts ≡ [])
LeadAlong bytes l (s ∷ steps) (t ∷ ts) = (held_path_location bytes t ≡ l) × LeadAlong bytes (l ++ down_step bytes s ∷ []) steps ts

-- what is shared leads along the steps
abbrev pub IsDescentPath : {N : Type 0} → (N → List ℕ) → SharedPath N → Type 0
IsDescentPath bytes t = LeadAlong bytes (location_at bytes t.start) t.steps.items t.shared.items

-- a descent is where it was
abbrev pub IsKeptAt : {N : Type 0} → (N → List ℕ) → SharedPath N → SharedPath N → Type 0
IsKeptAt bytes old new = (location_at bytes new.start ≡ location_at bytes old.start) × (new.steps.items ≡ old.steps.items)
