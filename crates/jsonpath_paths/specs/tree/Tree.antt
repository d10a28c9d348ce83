-- A path as a tree. It has the shape of the code's tree, with lists in place of memory.
use Rattle.std.specs.Prelude.{Bool, true, false}
use Rattle.jsonpath_paths.specs.declared.token.tokens.FilterToken.{FilterToken}
use Rattle.jsonpath_paths.specs.declared.token.tokens.FilterToken.TheVariants as op
use Rattle.jsonpath_paths.specs.declared.token.tokens.ParseToken.{ParseToken}

mutual
  -- from the root or from a candidate
  pub data Path : Type 0 where
    path : (absolute : Bool) (steps : PathSteps) → Path

  -- a step, begun by two dots or not, in brackets or not, and those behind it
  pub data PathSteps : Type 0 where
    no_steps : PathSteps
    step_then : (leaves bracket : Bool) (inner : Inner) (rest : PathSteps) → PathSteps

  -- what a step selects: a token, or the candidates that meet a condition
  pub data Inner : Type 0 where
    plain : (token : ParseToken) → Inner
    filter : (condition : Condition) → Inner

  -- a path that reaches something, a comparison, or two conditions and a connective
  pub data Condition : Type 0 where
    lone : (path : Path) → Condition
    compare : (left : Term) (comparison : FilterToken) (right : Term) → Condition
    join : (connective : FilterToken) (left right : Condition) → Condition

  -- a side of a comparison
  pub data Term : Type 0 where
    at_path : (path : Path) → Term
    literal : (token : ParseToken) → Term

-- the six comparisons; the other two are connectives
abbrev pub is_comparison : FilterToken → Bool
is_comparison op.And = false
is_comparison op.Or = false
is_comparison _ = true
