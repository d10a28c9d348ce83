-- The tree of a whole text, computed, and where a text is refused. Laws say that it is the tree that the text spells, and the place.
use Rattle.std.specs.Prelude.{ℕ, ◌+◌, List, [], ◌∷◌, Option, Some, None}
use Rattle.std.specs.Str.{chars}
use Rattle.jsonpath_paths.specs.Grammar.{Lexemes}
use Rattle.jsonpath_paths.specs.RefusedAt.{end_of, place_in}
use Rattle.jsonpath_paths.specs.plan.ParsedParts.{path_at}
use Rattle.jsonpath_paths.specs.plan.RefusedPlace.{behind_character}
use Rattle.jsonpath_paths.specs.plan.Wants.{stop, whole_wants}
use Rattle.jsonpath_paths.specs.token.Reading.{reading_from}
use Rattle.jsonpath_paths.specs.tree.Tree.{Path}
use Rattle.jsonpath_paths.specs.declared.token.tokens.TokenError.{TokenError}

abbrev pub when_read : List ℕ → Option Path → Option Path
when_read [] p = p
when_read (c ∷ cs) p = None

-- the tree that a text spells, if it spells one
abbrev pub tree_of_text : List ℕ → Option Path
tree_of_text text = let read = reading_from 0 0 (chars text) in when_read read.rest (path_at text read.lexemes)

-- behind the first token that may not come next, or behind all tokens, which end at this byte and leave these characters
abbrev pub place_after : List ℕ → ℕ → List ℕ → Option Lexemes → Option TokenError
place_after text end rest (Some (t ∷ ts)) = Some (place_in text (t.span.pos + t.span.offset))
place_after text end rest (Some []) = Some (behind_character text end rest)
place_after text end [] None = None
place_after text end (c ∷ cs) None = Some (behind_character text end (c ∷ cs))

-- where a text is refused, if it is no path
abbrev pub place_of_text : List ℕ → Option TokenError
place_of_text text = let read = reading_from 0 0 (chars text) in place_after text (end_of read.lexemes) read.rest (stop text whole_wants read.lexemes)
