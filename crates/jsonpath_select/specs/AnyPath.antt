-- What a compiled path of any kind lends.
use Rattle.std.specs.Prelude.{◌≡◌, ℕ, List}
use Rattle.jsonpath_paths.specs.Spelling.{Spells}
use Rattle.jsonpath_paths.specs.tree.View.{path_of}
use Rattle.jsonpath_paths.specs.Listed.{IsListOfText}
use Rattle.jsonpath_select.specs.declared.compile.any_path.PathParts.{PathParts}

-- the text, the tree that it spells, and the token list of the path
pub record ArePartsOf (text : List ℕ) (parts : PathParts) : Type 0 where
  pub same : parts.text.now ≡ text
  pub spelled : Spells text (path_of parts.tree.now)
  pub listed : IsListOfText text parts.tokens.now
