-- What is printed of a path with a syntax error.
use Rattle.std.specs.Prelude.{◌≡◌, ℕ, List, ◌++◌, codes}
use Rattle.jsonpath_paths.specs.Spelling.{IsInGrammar}

-- the text says that the path is wrong, and has it in a row of its own
pub record ShowsPath (path text : List ℕ) : Type 0 where
  pub what : List ℕ
  pub below : List ℕ
  pub shown : text ≡ codes "jpath: the path " ++ (what ++ (codes "\n  " ++ (path ++ (codes "\n  " ++ below))))

-- the hint says how a path begins
pub record BeginsWithRoot (hint : List ℕ) : Type 0 where
  pub more : List ℕ
  pub says : hint ≡ codes "a path begins with $" ++ more

-- what stands last in the hint is a path
pub record EndsWithPath (hint : List ℕ) : Type 0 where
  pub sentence : List ℕ
  pub path : List ℕ
  pub spelled : IsInGrammar path
  pub says : hint ≡ sentence ++ path
