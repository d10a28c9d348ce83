-- What is told of an answer without its list: how many values it has, the first of them, and whether it has any.
use Rattle.std.specs.Prelude.{◌≡◌, ℕ, ◌==◌, Bool, not, List, length, slice_get, Option}
use Rattle.jsonpath_nodes.specs.document.Document.{Document}

-- so many values are answered, each repeat counted
abbrev pub IsCountOf : (List Document → Type 0) → ℕ → Type 0
IsCountOf Answers count = (values : List Document) × Answers values × (count ≡ length values)

-- the first of the values answered, if there is one
abbrev pub IsFirstOf : (List Document → Type 0) → Option Document → Type 0
IsFirstOf Answers first = (values : List Document) × Answers values × (first ≡ slice_get values 0)

-- whether a value is answered
abbrev pub TellsIfAny : (List Document → Type 0) → Bool → Type 0
TellsIfAny Answers any = (values : List Document) × Answers values × (any ≡ not (length values == 0))
