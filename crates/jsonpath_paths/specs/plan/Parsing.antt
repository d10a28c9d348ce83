-- What the parser reads from, and what its answers mean.
use Rattle.std.specs.Prelude.{◌≡◌, ℕ, ◌+◌, List, [], ◌∷◌, Option, Some, None, Result, Ok, Err}
use Rattle.jsonpath_paths.specs.declared.token.tokens.Lexeme.{Lexeme}
use Rattle.jsonpath_paths.specs.declared.parser.tree_parser.TreeParser.TheInside.{Inside}
use Rattle.jsonpath_paths.specs.declared.parser.tree_parser.Refusal.{Refusal}
use Rattle.jsonpath_paths.specs.declared.parser.tree_parser.Refusal.TheVariants as fault
use Rattle.jsonpath_paths.specs.plan.TokensLeft.{TokensLeft}

abbrev pub left_of : Inside → TokensLeft
left_of c = record { text = c.text.now; lexemes = c.lexemes.now }

-- where the first of these tokens ends
abbrev pub next_token_end : List Lexeme → Option ℕ
next_token_end [] = None
next_token_end (p ∷ ps) = Some (p.span.pos + p.span.offset)

-- The answer, seen by view, is the part that is read here, and what is left is what it leaves, unless memory runs out.
abbrev pub Reads : {A B : Type 0} → (A → B) → Option (B × List Lexeme) → Result A Refusal → TokensLeft → TokensLeft → Type 0
Reads view read (Ok x) old new = (read ≡ Some (view x, new.lexemes)) × (new.text ≡ old.text)
Reads view read (Err fault.Refused) old new = (read ≡ None) × (new.text ≡ old.text)
Reads view read (Err fault.OutOfMemory) old new = new.text ≡ old.text
