-- Which trees have the forms of the grammar. The numbers of a union and of a range are in range by the token's type.
use Rattle.std.specs.Prelude.{◌≡◌, ◌≤◌, ℤ, Bool, true, false, IsTrue, length, FitsSigned}
use Rattle.std.specs.Int.{w64}
use Rattle.jsonpath_paths.specs.declared.decimal.Decimal.{Decimal}
use Rattle.jsonpath_paths.specs.declared.token.tokens.ParseToken.{ParseToken}
use Rattle.jsonpath_paths.specs.declared.token.tokens.ParseToken.TheVariants as t
use Rattle.jsonpath_paths.specs.Grammar.{whole_number}
use Rattle.jsonpath_paths.specs.tree.Tree.{Path, path, PathSteps, no_steps, step_then, Inner, plain, filter, Condition, lone, compare, join, Term, at_path, literal, is_comparison}

-- a whole number of 64 bits with a sign
abbrev pub IsIndex : Decimal → Type 0
IsIndex d = (n : ℤ) × FitsSigned w64 n × (d ≡ whole_number n)

-- what may stand behind dots: a name, or all
abbrev pub is_dot_word : ParseToken → Bool
is_dot_word t.All = true
is_dot_word (t.Key s) = true
is_dot_word _ = false

-- what may stand in brackets, but for a filter; a union and a list of names have two entries or more
abbrev pub IsBracketWord : ParseToken → Type 0
IsBracketWord t.All = Unit {0}
IsBracketWord (t.Key s) = Unit {0}
IsBracketWord (t.Keys ss) = 2 ≤ length ss
IsBracketWord (t.Union ns) = 2 ≤ length ns
IsBracketWord (t.Range first last step) = Unit {0}
IsBracketWord (t.Number d) = IsIndex d
IsBracketWord _ = ⊥

-- a side of a comparison that is no path: a text, a number or a truth
abbrev pub is_literal : ParseToken → Bool
is_literal (t.Key s) = true
is_literal (t.Number d) = true
is_literal (t.Bool b) = true
is_literal _ = false

abbrev mutual
  -- a path from the root or from a candidate
  pub IsTree : Path → Type 0
  IsTree (path absolute ss) = AreSteps ss

  pub AreSteps : PathSteps → Type 0
  AreSteps no_steps = Unit {0}
  AreSteps (step_then leaves bracket inner ss) = IsInner bracket inner × AreSteps ss

  -- a filter stands in brackets alone
  pub IsInner : Bool → Inner → Type 0
  IsInner false (plain token) = IsTrue (is_dot_word token)
  IsInner true (plain token) = IsBracketWord token
  IsInner false (filter c) = ⊥
  IsInner true (filter c) = IsCondition c

  -- a lone path is one from the candidate
  pub IsCondition : Condition → Type 0
  IsCondition (lone (path absolute ss)) = (absolute ≡ false) × AreSteps ss
  IsCondition (compare a op b) = IsTerm a × IsTrue (is_comparison op) × IsTerm b
  IsCondition (join op a b) = IsCondition a × (is_comparison op ≡ false) × IsCondition b

  pub IsTerm : Term → Type 0
  IsTerm (at_path p) = IsTree p
  IsTerm (literal token) = IsTrue (is_literal token)

-- a path of a whole text: it begins at the root
abbrev pub IsPath : Path → Type 0
IsPath (path absolute ss) = (absolute ≡ true) × AreSteps ss
