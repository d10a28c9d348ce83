-- Lists of steps from a depth on, and by what their first step is.
use Rattle.std.specs.Prelude.{ℕ, List, [], ◌∷◌, Bool, true, false, drop, map}
use Rattle.std.specs.declared.cmp.Ordering.{Ordering}
use Rattle.std.specs.declared.cmp.Ordering.TheVariants.{Less}
use Rattle.std.specs.Ordering.{is_eq, is_gt}
use Rattle.jsonpath_nodes.specs.place.Location.{Location, Step, step_cmp}
use Rattle.jsonpath_nodes.specs.place.SpotPlace.{step_of}
use Rattle.json_trees.specs.declared.targets.StepList.{StepList}

-- the locations as seen from so many steps on
abbrev pub steps_from : ℕ → List StepList → List Location
steps_from depth paths = map (λ path. drop depth (map step_of path.steps.now)) paths

-- how the first step compares with a step, before which a location with none comes
abbrev pub first_cmp : Location → Step → Ordering
first_cmp [] s = Less
first_cmp (t ∷ l) s = step_cmp t s

-- whether there is a first location and it begins with the step
abbrev pub begins_with_step : Step → List Location → Bool
begins_with_step s [] = false
begins_with_step s (l ∷ ls) = is_eq (first_cmp l s)

-- whether there is no location, or the first one comes behind those that begin with the step
abbrev pub begins_behind : Step → List Location → Bool
begins_behind s [] = true
begins_behind s (l ∷ ls) = is_gt (first_cmp l s)
