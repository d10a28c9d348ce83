-- What a descent gathers at each array and object where it comes.
use Rattle.std.specs.Prelude.{List, []}
use Rattle.jsonpath_nodes.specs.document.Document.{Document, object}
use Rattle.jsonpath_nodes.specs.place.Location.{Location, below}
use Rattle.jsonpath_nodes.specs.step.Candidates.{flat_members}
use Rattle.jsonpath_nodes.specs.step.Steps.{Plain, from_each, single_steps}

-- what a step selects; or what is flat in objects
pub data Gathered : Type 0 where
  selected : Plain → Gathered
  flattened : Gathered

-- what is no array and is reached through arrays alone from the members of an object
abbrev pub flat_in_object : Document → List Location
flat_in_object (object ms) = flat_members ms
flat_in_object _ = []

-- what is gathered at a value
abbrev pub gathered_at : Gathered → Document → List Location
gathered_at (selected p) = single_steps p
gathered_at flattened = flat_in_object

-- what own gives at a value and at all that lies below it
abbrev pub all_gathered : (Document → List Location) → Document → List Location
all_gathered own d = from_each d own (below d)
