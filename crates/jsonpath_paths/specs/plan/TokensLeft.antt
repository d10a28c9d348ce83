-- The text of a path and the tokens that are left to be read.
use Rattle.std.specs.Prelude.{ℕ, List}
use Rattle.jsonpath_paths.specs.declared.token.tokens.Lexeme.{Lexeme}

pub record TokensLeft : Type 0 where
  pub text : List ℕ
  pub lexemes : List Lexeme
