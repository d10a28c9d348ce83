-- The location that an owned one stands for.
use Rattle.std.specs.Prelude.{List, map, string_bytes}
use Rattle.jsonpath_nodes.specs.place.Location.{Step, name, index, Location}
use Rattle.jsonpath_nodes.specs.declared.place.location.LocStep.{LocStep}
use Rattle.jsonpath_nodes.specs.declared.place.location.LocStep.TheVariants.{Name, Index}

abbrev pub owned_step : LocStep → Step
owned_step (Name s) = name (string_bytes s)
owned_step (Index i) = index i

abbrev pub owned_steps : List LocStep → Location
owned_steps = map owned_step
