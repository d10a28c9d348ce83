-- Two texts whose trees differ in the order of the sides of a connective alone.
use Rattle.std.proofs.Common.{◌≡◌, ℕ, List, Some, None, true, false, pos, refl, inr, codes}
use Rattle.std.specs.Char.{encode_utf8}
use Rattle.std.specs.Str.{chars}
use Rattle.jsonpath_paths.specs.plan.ParsedParts.{path_at, plain_at, literal_at, inner_at, array_at, step_at, steps_at, term_at, part_at, condition_by, skip}
use Rattle.jsonpath_paths.specs.tree.Joined.{filter_text, joined_text, filter_path}
use Rattle.jsonpath_paths.specs.Numbers.{index_of, range_step_of, decimal_of, fraction_of}
use Rattle.jsonpath_paths.specs.Literals.{truth_of}
use Rattle.jsonpath_paths.specs.Spelling.{Spells, IsInGrammar}
use Rattle.jsonpath_paths.specs.WholeText.{tree_of_text}
use Rattle.jsonpath_paths.specs.tree.Tree.{Path, path, no_steps, step_then, plain, filter, Condition, lone, compare, join, at_path, literal}
use Rattle.jsonpath_paths.specs.declared.token.tokens.FilterToken.TheVariants as op
use Rattle.jsonpath_paths.specs.declared.token.tokens.ParseToken.TheVariants as t
use Rattle.jsonpath_select.specs.SelectionLaws.{IsReordered}
use Rattle.jsonpath_paths.specs.text.Spans.{slice_at}

abbrev first_text : List ℕ
first_text = codes "$[?((@.a == 1) || (@))]"

abbrev first_tree : Path
first_tree = path true (step_then false true (filter (join op.Or
    (compare (at_path (path false (step_then false false (plain (t.Key (record { pos = 7; offset = 1 }))) no_steps))) op.Equal (literal (t.Number (record { units = pos 1000000000000000000 }))))
    (lone (path false no_steps)))) no_steps)

abbrev second_text : List ℕ
second_text = codes "$[?(@ || @['a'] == 01)]"

abbrev second_tree : Path
second_tree = path true (step_then false true (filter (join op.Or
    (lone (path false no_steps))
    (compare (at_path (path false (step_then false true (plain (t.Key (record { pos = 11; offset = 3 }))) no_steps))) op.Equal (literal (t.Number (record { units = pos 1000000000000000000 }))))))
    no_steps)

reordered : IsReordered first_text second_text first_tree second_tree
unfolding slice_at chars encode_utf8
reordered = (refl, (refl, (refl, inr ((refl, (refl, (refl, refl, tt)), refl), (refl, tt))), tt))

-- ---- two conditions in one text

put_together : joined_text op.Or (codes "@.a == 1") (codes "@") ≡ first_text
put_together = refl

abbrev member : ℕ → Condition
member i = lone (path false (step_then false false (plain (t.Key (record { pos = i; offset = 1 }))) no_steps))

-- What is no condition alone is taken apart by what it stands beside, and means `x || (y && z)` before it and `z && (x || y)` behind it.
abbrev two_groups : List ℕ
two_groups = codes "@.x) || (@.y"

-- by the law `spelled_tree`
module _ (found : (text : List ℕ) (p : Path) → tree_of_text text ≡ Some p → Spells text p) (only : (text : List ℕ) (p : Path) → Spells text p → tree_of_text text ≡ Some p) where
  first : Spells first_text first_tree
  unfolding path_at plain_at literal_at inner_at array_at step_at steps_at term_at part_at condition_by skip index_of range_step_of decimal_of fraction_of truth_of chars encode_utf8
  first = found first_text first_tree refl

  second : Spells second_text second_tree
  unfolding path_at plain_at literal_at inner_at array_at step_at steps_at term_at part_at condition_by skip index_of range_step_of decimal_of fraction_of truth_of chars encode_utf8
  second = found second_text second_tree refl

  no_condition : ¬ IsInGrammar (filter_text two_groups)
  unfolding path_at plain_at literal_at inner_at array_at step_at steps_at term_at part_at condition_by skip index_of range_step_of decimal_of fraction_of truth_of chars encode_utf8
  no_condition h = let e : None ≡ Some h.0 = only (filter_text two_groups) h.0 h.1 in cc

  before : Spells (joined_text op.And two_groups (codes "@.z")) (filter_path (join op.Or (member 7) (join op.And (member 16) (member 25))))
  unfolding path_at plain_at literal_at inner_at array_at step_at steps_at term_at part_at condition_by skip index_of range_step_of decimal_of fraction_of truth_of chars encode_utf8
  before = found _ _ refl

  behind : Spells (joined_text op.And (codes "@.z") two_groups) (filter_path (join op.And (member 7) (join op.Or (member 16) (member 25))))
  unfolding path_at plain_at literal_at inner_at array_at step_at steps_at term_at part_at condition_by skip index_of range_step_of decimal_of fraction_of truth_of chars encode_utf8
  behind = found _ _ refl

  -- Two filters are a path, but no condition: what is put beside them is none.
  two_filters : IsInGrammar (filter_text (codes "@.x)][?(@.y"))
  unfolding path_at plain_at literal_at inner_at array_at step_at steps_at term_at part_at condition_by skip index_of range_step_of decimal_of fraction_of truth_of chars encode_utf8
  two_filters = (_, found (filter_text (codes "@.x)][?(@.y")) _ refl)

  not_joined : ¬ IsInGrammar (joined_text op.And (codes "@.x)][?(@.y") (codes "@.z"))
  unfolding path_at plain_at literal_at inner_at array_at step_at steps_at term_at part_at condition_by skip index_of range_step_of decimal_of fraction_of truth_of chars encode_utf8
  not_joined h = let e : None ≡ Some h.0 = only (joined_text op.And (codes "@.x)][?(@.y") (codes "@.z")) h.0 h.1 in cc
