-- The locations that updates by a path go to, and what the updates leave.
use Rattle.std.specs.Prelude.{◌≡◌, ℕ, List}
use Rattle.jsonpath_nodes.specs.document.Document.{Document}
use Rattle.jsonpath_paths.specs.tree.Tree.{Path}
use Rattle.jsonpath_nodes.specs.update.Calls.{UpdateCalls}
use Rattle.jsonpath_nodes.specs.place.Location.{Location}
use Rattle.jsonpath_nodes.specs.place.Order.{once_in_order}
use Rattle.jsonpath_nodes.specs.update.Run.{RunsWith}
use Rattle.jsonpath_nodes.specs.update.Topmost.{put, nulled, taken}
use Rattle.jsonpath_select.specs.Meaning.{sel}
use Rattle.jsonpath_paths.specs.OfPath.{OfPath}

-- the selected locations, each once, in document order
abbrev pub targets : List ℕ → Document → Path → List Location
targets text doc p = once_in_order (sel text doc p)

-- the locations are the targets of the path that the text spells
abbrev pub AreTargets : List ℕ → Document → List Location → Type 0
AreTargets text doc locations = OfPath text (λ path. locations ≡ targets text doc path)

-- null stands at the topmost locations that the path selects below the root, and all else is as it was
abbrev pub IsDeleted : List ℕ → Document → Document → Type 0
IsDeleted text before after = OfPath text (λ path. after ≡ nulled (targets text before path) before)

-- one value stands at the topmost locations that the path selects below the root, and all else is as it was
abbrev pub IsSet : List ℕ → Document → Document → Document → Type 0
IsSet text value before after = OfPath text (λ path. after ≡ put value (targets text before path) before)

-- what stood at the topmost locations that the path selects below the root is gone, all of it at once
abbrev pub IsRemoved : List ℕ → Document → Document → Type 0
IsRemoved text before after = OfPath text (λ path. after ≡ taken (targets text before path) before)

-- the single updates at the selected locations, one after another, each with what the closure answers
abbrev pub IsReplaced : {F : Type 0} → UpdateCalls F → List ℕ → Document → F → F → Document → Type 0
IsReplaced calls text before f g after = OfPath text (λ path. RunsWith calls (targets text before path) before f g after)
