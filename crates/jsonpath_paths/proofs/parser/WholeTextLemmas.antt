-- A text spells exactly the tree that is computed from it.
use Rattle.std.proofs.Common.{◌≡◌, ℕ, List, Some, ap, ◌∙◌, arith}
use Rattle.std.specs.Str.{chars}
use Rattle.jsonpath_paths.specs.plan.ParsedParts.{path_at}
use Rattle.jsonpath_paths.specs.token.Reading.{reading_from}
use Rattle.jsonpath_paths.specs.Spelling.{Spells}
use Rattle.jsonpath_paths.specs.tree.Tree.{Path}
use Rattle.jsonpath_paths.specs.WholeText.{when_read, tree_of_text}
use Rattle.jsonpath_paths.proofs.parser.DerivationLemmas.{sound_path, complete_path}
use Rattle.jsonpath_paths.proofs.token.TokenizedLemmas.{found_spelled, spells_found}

pub spelled_found : (text : List ℕ) (p : Path) → tree_of_text text ≡ Some p → Spells text p
spelled_found text p h = grind (arith, sound_path, spells_found)

pub spelled_only : (text : List ℕ) (p : Path) → Spells text p → tree_of_text text ≡ Some p
spelled_only text p h =
    let read = reading_from 0 0 (chars text) in
    let whole = found_spelled text p h in
    ap (λ rest. when_read rest (path_at text read.lexemes)) whole.0 ∙ complete_path text read.lexemes p whole.1
