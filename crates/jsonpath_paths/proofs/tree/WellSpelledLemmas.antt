-- What the grammar spells is well-formed.
use Rattle.std.proofs.Common.{◌≡◌, ℕ, Bool, true, false, List, Some, refl, subst, sym, arith}
use Rattle.std.specs.Prelude.{IsTrue}
use Rattle.jsonpath_paths.specs.declared.token.tokens.FilterToken.{FilterToken}
use Rattle.jsonpath_paths.specs.declared.token.tokens.Kind.{Kind}
use Rattle.jsonpath_paths.specs.declared.token.tokens.Kind.TheVariants as k
use Rattle.jsonpath_paths.specs.declared.token.tokens.ParseToken.{ParseToken}
use Rattle.jsonpath_paths.proofs.parser.FormLemmas as g
use Rattle.jsonpath_paths.proofs.parser.DerivationLemmas.{path_form}
use Rattle.jsonpath_paths.specs.Grammar.{Lexemes, comparison, connective, SpellsPath}
use Rattle.jsonpath_paths.specs.tree.Tree.{Path, PathSteps, Inner, Condition, Term, is_comparison}
use Rattle.jsonpath_paths.specs.tree.WellFormed.{IsPath, AreSteps, IsInner, IsCondition, IsTerm, IsBracketWord, is_dot_word, is_literal}
use Rattle.jsonpath_paths.proofs.parser.ParseLemmas.{index_fits}

compares : (kind : Kind) (o : FilterToken) → comparison kind ≡ Some o → IsTrue (is_comparison o)
compares kind o h = grind arith

connects : (kind : Kind) (o : FilterToken) → connective kind ≡ Some o → is_comparison o ≡ false
connects kind o h = grind arith

module _ (text : List ℕ) where
  word_well : {token : ParseToken} {from to : Lexemes} → g.WordAt text token from to → IsTrue (is_dot_word token)
  word_well h = grind arith

  plain_well : {token : ParseToken} {from to : Lexemes} → g.PlainAt text token from to → IsBracketWord token
  plain_well h = grind (arith, index_fits)

  literal_well : {token : ParseToken} {from to : Lexemes} → g.LiteralAt text token from to → IsTrue (is_literal token)
  literal_well h = grind arith

  mutual
    pub steps_well : {n : ℕ} {ss : PathSteps} {from to : Lexemes} → g.StepsAt text n ss from to → AreSteps ss
    steps_well g.no_step = tt
    steps_well (g.one_step mid s more) = (step_well s, steps_well more)

    step_well : {n : ℕ} {leaves bracket : Bool} {inner : Inner} {from to : Lexemes} → g.StepAt text n leaves bracket inner from to → IsInner bracket inner
    step_well (g.dot a h w) = word_well w
    step_well (g.dots a b h i w) = word_well w
    step_well (g.bracket a b h i c) = inner_well i
    step_well (g.dot_bracket a b c h o i close) = inner_well i
    step_well (g.dots_bracket a b c d h j o i close) = inner_well i

    inner_well : {n : ℕ} {inner : Inner} {from to : Lexemes} → g.InnerAt text n inner from to → IsInner true inner
    inner_well (g.in_plain p) = plain_well p
    inner_well (g.in_filter a b d h o c) = condition_well c

    condition_well : {n : ℕ} {c : Condition} {from to : Lexemes} → g.ConditionAt text n c from to → IsCondition c
    condition_well (g.closed a p close) = part_well p
    condition_well (g.joined {o = o} kind a b p e _ c) = (part_well p, connects kind o e, condition_well c)

    part_well : {n : ℕ} {c : Condition} {from to : Lexemes} → g.PartAt text n c from to → IsCondition c
    part_well (g.parentheses a h c) = condition_well c
    part_well (g.compared {o = o} kind a b l e _ r) = (term_well l, compares kind o e, term_well r)
    part_well (g.found a h ss) = (refl, steps_well ss)

    term_well : {n : ℕ} {t : Term} {from to : Lexemes} → g.TermAt text n t from to → IsTerm t
    term_well (g.relative a h ss) = steps_well ss
    term_well (g.absolute a h ss) = steps_well ss
    term_well (g.of_literal l) = literal_well l

  pub path_well : (p : Path) (ts : Lexemes) → SpellsPath text p ts → IsPath p
  path_well p ts h = let form = path_form text h in subst IsPath (sym form.is) (refl, steps_well form.spelled)
