-- The token list of a tree.
use Rattle.std.specs.Prelude.{Bool, true, false, List, [], ◌∷◌, ◌++◌, Contains}
use denote.Ref.{Bor}
use Rattle.jsonpath_paths.specs.declared.text.str_reader.StrRange.{StrRange}
use Rattle.jsonpath_paths.specs.declared.token.tokens.ParseToken.{ParseToken}
use Rattle.jsonpath_paths.specs.declared.token.tokens.ParseToken.TheVariants as t
use Rattle.jsonpath_paths.specs.tree.Tree.{Path, path, PathSteps, no_steps, step_then, Inner, plain, filter, Condition, lone, compare, join, Term, at_path, literal}

abbrev pub root_token : Bool → ParseToken
root_token true = t.Absolute
root_token false = t.Relative

-- what stands before the inner part: the step's depth, and an array's beginning
abbrev pub opening : Bool → Bool → List ParseToken
opening false false = t.In ∷ []
opening true false = t.Leaves ∷ []
opening false true = t.Array ∷ []
opening true true = t.Leaves ∷ t.Array ∷ []

abbrev pub ending : Bool → List ParseToken
ending false = []
ending true = t.ArrayEof ∷ []

abbrev pub one_step : Bool → Bool → List ParseToken → List ParseToken
one_step leaves bracket inner = opening leaves bracket ++ (inner ++ ending bracket)

abbrev mutual
  pub path_tokens : Path → List ParseToken
  path_tokens (path absolute ss) = root_token absolute ∷ step_tokens ss

  pub step_tokens : PathSteps → List ParseToken
  step_tokens no_steps = []
  step_tokens (step_then leaves bracket inner ss) = one_step leaves bracket (inner_tokens inner) ++ step_tokens ss

  pub inner_tokens : Inner → List ParseToken
  inner_tokens (plain token) = token ∷ []
  inner_tokens (filter c) = condition_tokens c

  pub condition_tokens : Condition → List ParseToken
  condition_tokens (lone p) = path_tokens p
  condition_tokens (compare a op b) = term_tokens a ++ (term_tokens b ++ t.Filter op ∷ [])
  condition_tokens (join op a b) = condition_tokens a ++ (condition_tokens b ++ t.Filter op ∷ [])

  pub term_tokens : Term → List ParseToken
  term_tokens (at_path p) = path_tokens p
  term_tokens (literal token) = token ∷ []

-- the reader may be called at each of the spans
abbrev pub MayReadAll : (Bor StrRange → Type 0) → List StrRange → Type 0
MayReadAll pre ss = (s : Bor StrRange) → Contains ss s.now → pre s

-- the reader may be called at the spans of a token
abbrev pub MayRead : (Bor StrRange → Type 0) → ParseToken → Type 0
MayRead pre (t.Key s) = MayReadAll pre (s ∷ [])
MayRead pre (t.Keys ss) = MayReadAll pre ss
MayRead pre _ = Unit {0}

abbrev mutual
  -- the reader may be called at the spans of a path, and of each of its parts
  pub MayReadPath : (Bor StrRange → Type 0) → Path → Type 0
  MayReadPath pre (path absolute ss) = MayReadSteps pre ss

  pub MayReadSteps : (Bor StrRange → Type 0) → PathSteps → Type 0
  MayReadSteps pre no_steps = Unit {0}
  MayReadSteps pre (step_then leaves bracket inner ss) = MayReadInner pre inner × MayReadSteps pre ss

  pub MayReadInner : (Bor StrRange → Type 0) → Inner → Type 0
  MayReadInner pre (plain token) = MayRead pre token
  MayReadInner pre (filter c) = MayReadCondition pre c

  pub MayReadCondition : (Bor StrRange → Type 0) → Condition → Type 0
  MayReadCondition pre (lone p) = MayReadPath pre p
  MayReadCondition pre (compare a op b) = MayReadTerm pre a × MayReadTerm pre b
  MayReadCondition pre (join op a b) = MayReadCondition pre a × MayReadCondition pre b

  pub MayReadTerm : (Bor StrRange → Type 0) → Term → Type 0
  MayReadTerm pre (at_path p) = MayReadPath pre p
  MayReadTerm pre (literal token) = MayRead pre token
