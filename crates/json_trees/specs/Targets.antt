-- The locations to which targets lead.
use Rattle.std.specs.Prelude.{List}
use Rattle.jsonpath_nodes.specs.place.Location.{Location}
use Rattle.json_trees.specs.StepsFrom.{steps_from}
use Rattle.json_trees.specs.declared.targets.Targets.{Targets}

-- as seen from the value to which the first steps of all of them lead
abbrev pub targets_view : Targets → List Location
targets_view targets = steps_from targets.depth targets.paths.now
