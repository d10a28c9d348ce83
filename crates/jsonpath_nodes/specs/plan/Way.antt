-- The way of a descent: where it began, and the steps down from there. Marks that keep no location keep none of it.
use Rattle.std.specs.Prelude.{◌≡◌, ℕ, ◌-◌, List, ◌++◌, Bool, length, take}
use Rattle.jsonpath_nodes.specs.place.Location.{Step, name, index, Location}
use Rattle.jsonpath_nodes.specs.place.Mark.{kept_location}
use Rattle.jsonpath_nodes.specs.declared.step.descends.DownStep.{DownStep}
use Rattle.jsonpath_nodes.specs.declared.step.descends.DownStep.TheVariants.{Item, Member}

-- the step that is taken, by what the bytes of a name are
abbrev pub down_step : {N : Type 0} → (N → List ℕ) → DownStep N → Step
down_step bytes (Item i) = index i
down_step bytes (Member k) = name (bytes k)

-- where steps lead from a start, as far as it is kept
abbrev pub way_stand : Bool → Location → List Step → Location
way_stand b start steps = kept_location b (start ++ steps)

-- the same steps, as far as they are kept
abbrev pub AreSame : Bool → List Step → List Step → Type 0
AreSame b s t = kept_location b s ≡ kept_location b t

-- a way is where it was
abbrev pub Stays : Bool → Location → List Step → Location → List Step → Type 0
Stays b start steps later_start later_steps = (later_start ≡ start) × AreSame b later_steps steps

abbrev pub without_last : List Step → List Step
without_last steps = take (length steps - 1) steps
