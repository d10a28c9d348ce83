-- Texts of one filter, and of two conditions put together in one, and their trees.
use Rattle.std.specs.Prelude.{◌≡◌, ℕ, true, false, List, [], ◌++◌, codes}
use Rattle.jsonpath_paths.specs.tree.Alike.{AlikeCondition}
use Rattle.jsonpath_paths.specs.Spelling.{Spells}
use Rattle.jsonpath_paths.specs.tree.Tree.{Path, path, no_steps, step_then, filter, Condition, join}
use Rattle.jsonpath_paths.specs.declared.token.tokens.FilterToken.{FilterToken}
use Rattle.jsonpath_paths.specs.declared.token.tokens.FilterToken.TheVariants as op

-- the path of this condition alone, as `$[?(@.a)]`
abbrev pub filter_text : List ℕ → List ℕ
filter_text a = codes "$[?(" ++ (a ++ codes ")]")

-- what stands between two conditions: a connective between parentheses, so that neither side takes the other apart
abbrev pub between : FilterToken → List ℕ
between op.And = codes ") && ("
between op.Or = codes ") || ("
between _ = []

-- the path of two conditions in parentheses and a connective, as `$[?((@.a) && (@.b))]`
abbrev pub joined_text : FilterToken → List ℕ → List ℕ → List ℕ
joined_text o a b = codes "$[?((" ++ (a ++ (between o ++ (b ++ codes "))]")))

-- the tree of one filter
abbrev pub filter_path : Condition → Path
filter_path c = path true (step_then false true (filter c) no_steps)

-- The tree joins two conditions, and each is the one that its side spells alone, but for where it stands.
pub record JoinsSides (o : FilterToken) (a b : List ℕ) (p : Path) : Type 0 where
  pub left : Condition
  pub right : Condition
  pub left_alone : Condition
  pub right_alone : Condition
  pub is : p ≡ filter_path (join o left right)
  pub spells_left : Spells (filter_text a) (filter_path left_alone)
  pub spells_right : Spells (filter_text b) (filter_path right_alone)
  pub same_left : AlikeCondition (filter_text a) (joined_text o a b) left_alone left
  pub same_right : AlikeCondition (filter_text b) (joined_text o a b) right_alone right
