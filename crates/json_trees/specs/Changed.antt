-- What is printed where some values of a document give way to null or to nothing.
use Rattle.std.specs.Prelude.{List, Option, Some, None, if◌then◌else◌}
use Rattle.jsonpath_nodes.specs.document.Document.{Document, null}
use Rattle.jsonpath_nodes.specs.place.Location.{Location}
use Rattle.jsonpath_nodes.specs.update.Topmost.{has_root, with_answer_at_topmost}
use Rattle.json_trees.specs.declared.printing.Replacement.{Replacement}
use Rattle.json_trees.specs.declared.printing.Replacement.TheVariants.{Null, Nothing}

abbrev pub answer_of : Replacement → Option Document
answer_of Null = Some null
answer_of Nothing = None

-- what becomes of a child, where the locations are those from it on
abbrev pub changed_child : Option Document → List Location → Document → Option Document
changed_child answer ls d = if has_root ls then answer else Some (with_answer_at_topmost answer ls d)
