-- What a compiled path that owns its text shows: its text, which spells one tree.
use Rattle.std.specs.Prelude.{ℕ, List, string_bytes}
use Rattle.jsonpath_paths.specs.Spelling.{Spells}
use Rattle.jsonpath_paths.specs.tree.View.{path_of}
use Rattle.jsonpath_paths.specs.Listed.{IsListOfText}
use Rattle.jsonpath_select.specs.declared.compile.node.Node.TheInside.{Inside}

abbrev pub node_text : Inside → List ℕ
node_text n = string_bytes n.text

-- the text spells the tree
abbrev pub SpellsItsTree : Inside → Type 0
SpellsItsTree n = Spells (string_bytes n.text) (path_of n.tree)

-- the text spells the tree, and the token list is that of the path
abbrev pub IsOneInside : Inside → Type 0
IsOneInside n = SpellsItsTree n × IsListOfText (string_bytes n.text) n.tokens.items
