-- When a rule matches a message.
use Rattle.std.specs.Prelude.{◌≢◌, ◌<◌, ℕ, [], List, slice_index_or}
use Rattle.jsonpath_nodes.specs.document.Document.{Document}
use Rattle.jsonpath_select.specs.Meaning.{Selects}

-- the path selects something
abbrev pub Matches : List ℕ → Document → Type 0
Matches rule message = (values : List Document) × Selects rule message values × (values ≢ [])

-- the path selects nothing
abbrev pub MatchesNot : List ℕ → Document → Type 0
MatchesNot rule message = Selects rule message []

-- none of the first so many rules selects anything
abbrev pub NoneBefore : List (List ℕ) → ℕ → Document → Type 0
NoneBefore rules count message = (k : ℕ) → k < count → MatchesNot (slice_index_or rules k []) message
