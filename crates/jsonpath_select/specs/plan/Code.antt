-- The instructions of a path, and a scan of its token list that finds them. The scan begins at the list's end: there it is
-- known which words are steps, which brackets hold a filter, and whether the filter's own `@` has a step.
use Rattle.std.specs.Prelude.{Bool, true, false, ◌||◌, List, [], ◌∷◌, ◌++◌, if◌then◌else◌}
use Rattle.jsonpath_paths.specs.tree.Tree.{Path, PathSteps, Inner, Condition, Term, is_comparison}
use Rattle.jsonpath_paths.specs.tree.Tree as tree
use Rattle.jsonpath_paths.specs.declared.token.tokens.FilterToken.{FilterToken}
use Rattle.jsonpath_paths.specs.declared.token.tokens.ParseToken.{ParseToken}
use Rattle.jsonpath_paths.specs.declared.token.tokens.ParseToken.TheVariants as t
use Rattle.jsonpath_select.specs.Meaning.{has_own_step}

pub data Instruction : Type 0 where
  -- a path begins, at the root or at the candidates
  start : Bool → Instruction
  -- a plain step, and whether it is also on all below
  plain_step : Bool → ParseToken → Instruction
  -- a filter begins: is it also on all below, and has its own `@` a step
  enter : Bool → Bool → Instruction
  -- the filter ends
  leave : Instruction
  -- a literal
  constant : ParseToken → Instruction
  -- a comparison of the two terms before it
  compares : FilterToken → Instruction
  -- a connective between the two conditions before it
  joins : FilterToken → Instruction
  -- in the manner of sets: the locations on top are lessened to those that a descent begins at, or put in order, each once
  topmost : Instruction
  in_order : Instruction
  -- a filter's candidates are put aside, and each location of them is to be decided once
  distinct : Instruction
  -- those put aside go on whose location has passed
  put_back : Instruction

-- ---- the instructions of a tree

abbrev mutual
  pub path_code : Path → List Instruction
  path_code (tree.path absolute ss) = start absolute ∷ steps_code ss

  pub steps_code : PathSteps → List Instruction
  steps_code tree.no_steps = []
  steps_code (tree.step_then leaves bracket inner ss) = inner_code leaves inner ++ steps_code ss

  pub inner_code : Bool → Inner → List Instruction
  inner_code leaves (tree.plain token) = plain_step leaves token ∷ []
  inner_code leaves (tree.filter c) = enter leaves (has_own_step c) ∷ (condition_code c ++ leave ∷ [])

  pub condition_code : Condition → List Instruction
  condition_code (tree.lone p) = path_code p
  condition_code (tree.compare a op b) = term_code a ++ (term_code b ++ compares op ∷ [])
  condition_code (tree.join op a b) = condition_code a ++ (condition_code b ++ joins op ∷ [])

  pub term_code : Term → List Instruction
  term_code (tree.at_path p) = path_code p
  term_code (tree.literal token) = constant token ∷ []

-- ---- the instructions in the manner of sets, or as they are

-- behind `..` only the topmost are led on
abbrev pub before_step : Bool → List Instruction
before_step true = topmost ∷ []
before_step false = []

abbrev pub by_sets : Instruction → List Instruction
by_sets (plain_step leaves token) = before_step leaves ++ plain_step leaves token ∷ in_order ∷ []
by_sets (enter leaves deep) = before_step leaves ++ enter leaves deep ∷ distinct ∷ []
by_sets leave = leave ∷ put_back ∷ in_order ∷ []
by_sets i = i ∷ []

abbrev pub all_by_sets : List Instruction → List Instruction
all_by_sets [] = []
all_by_sets (i ∷ is) = by_sets i ++ all_by_sets is

-- a condition with its filter's end, decided by sets for the candidates of a list with repeats
abbrev pub decided_by_sets : List Instruction → List Instruction
decided_by_sets condition = distinct ∷ all_by_sets condition ++ leave ∷ put_back ∷ []

-- ---- the scan: what is known of the tokens behind a place

pub record Scan : Type 0 where
  -- their instructions
  pub code : List Instruction
  -- of each bracket that is not begun yet, the innermost first: was there an own `@` with a step
  pub own : List Bool

abbrev pub starts_with_step : List Instruction → Bool
starts_with_step [] = false
starts_with_step (plain_step leaves token ∷ is) = true
starts_with_step (enter leaves deep ∷ is) = true
starts_with_step (i ∷ is) = false

-- notes for the innermost bracket that its own `@` has a step
abbrev pub note_own_step : Bool → List Bool → List Bool
note_own_step b [] = []
note_own_step b (o ∷ os) = (o || b) ∷ os

abbrev pub innermost : List Bool → Bool
innermost [] = false
innermost (o ∷ os) = o

abbrev pub outer : List Bool → List Bool
outer [] = []
outer (o ∷ os) = os

-- the step at the front has one dot before it, or two
abbrev pub with_dots : Bool → List Instruction → List Instruction
with_dots leaves [] = []
with_dots leaves (plain_step b token ∷ is) = plain_step leaves token ∷ is
with_dots leaves (enter b deep ∷ is) = enter leaves deep ∷ is
with_dots leaves (constant token ∷ is) = plain_step leaves token ∷ is
with_dots leaves (i ∷ is) = i ∷ is

abbrev pub lone_word : Bool → ParseToken → List Instruction → List Instruction
lone_word deep token [] = enter false deep ∷ constant token ∷ []
lone_word deep token (leave ∷ is) = plain_step false token ∷ is
lone_word deep token (i ∷ is) = enter false deep ∷ constant token ∷ i ∷ is

-- what a bracket begins: one word alone is a step, and all else a filter
abbrev pub in_brackets : Bool → List Instruction → List Instruction
in_brackets deep [] = enter false deep ∷ []
in_brackets deep (constant token ∷ is) = lone_word deep token is
in_brackets deep (i ∷ is) = enter false deep ∷ i ∷ is

abbrev pub operator_instruction : FilterToken → Instruction
operator_instruction op = if is_comparison op then compares op else joins op

-- one token more, before the others
abbrev pub scanned : ParseToken → Scan → Scan
scanned t.Absolute s = record { code = start true ∷ s.code; own = s.own }
scanned t.Relative s = record { code = start false ∷ s.code; own = note_own_step (starts_with_step s.code) s.own }
scanned t.In s = record { code = with_dots false s.code; own = s.own }
scanned t.Leaves s = record { code = with_dots true s.code; own = s.own }
scanned t.Array s = record { code = in_brackets (innermost s.own) s.code; own = outer s.own }
scanned t.ArrayEof s = record { code = leave ∷ s.code; own = false ∷ s.own }
scanned (t.Filter op) s = record { code = operator_instruction op ∷ s.code; own = s.own }
scanned token s = record { code = constant token ∷ s.code; own = s.own }

abbrev pub scan_onto : List ParseToken → Scan → Scan
scan_onto [] s = s
scan_onto (token ∷ ts) s = scanned token (scan_onto ts s)

abbrev pub scan : List ParseToken → Scan
scan ts = scan_onto ts (record { code = []; own = [] })
