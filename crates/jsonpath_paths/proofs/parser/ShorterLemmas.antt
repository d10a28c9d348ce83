-- What is left behind a part is no longer than what the part began with.
use Rattle.std.proofs.Common.{◌≡◌, ◌≤◌, ◌<◌, ℕ, suc, Bool, List, length, Option, ℤ, ap, arith}
use Rattle.jsonpath_paths.specs.plan.ParsedParts.{skip}
use Rattle.jsonpath_paths.specs.declared.text.str_reader.StrRange.{StrRange}
use Rattle.jsonpath_paths.specs.declared.token.tokens.Kind.{Kind}
use Rattle.jsonpath_paths.specs.declared.token.tokens.Kind.TheVariants as k
use Rattle.jsonpath_paths.specs.declared.token.tokens.ParseToken.{ParseToken}
use Rattle.jsonpath_paths.proofs.parser.FormLemmas as g
use Rattle.jsonpath_paths.specs.Grammar.{Lexemes, Takes}
use Rattle.jsonpath_paths.proofs.parser.FormLemmas.{Eats, Quoted}
use Rattle.jsonpath_paths.specs.tree.Tree.{PathSteps, Inner, Condition, Term}

pub skip_shorter : (ts : Lexemes) → length (skip ts) ≤ length ts
unfolding skip
skip_shorter ts = grind arith

pub takes_shorter : (kind : Kind) (s : StrRange) (from to : Lexemes) → Takes kind s from to → length from ≡ suc (length to)
takes_shorter kind s from to h = ap length h

pub eats_shorter : (kind : Kind) (from to : Lexemes) → Eats kind from to → length from ≡ suc (length to)
eats_shorter kind from to h = ap length h.1

pub quoted_shorter : (s : StrRange) (from to : Lexemes) → Quoted s from to → length from ≡ suc (length to)
quoted_shorter s from to h = ap length h.1

module _ (text : List ℕ) where
  pub bound_shorter : {low : Option ℤ} {from to : Lexemes} → g.BoundAt text low from to → length to ≤ length from
  bound_shorter h = grind (arith, skip_shorter)

  pub step_part_shorter : {pace : Option ℕ} {from to : Lexemes} → g.StepPartAt text pace from to → length to ≤ length from
  step_part_shorter g.no_step_part = omega arith
  step_part_shorter (g.bare_colon {from = from} a c) = omega (arith, eats_shorter k.Split from a c, skip_shorter a)
  step_part_shorter (g.step_part {from = from} a b c i) = omega (arith, eats_shorter k.Split from a c, skip_shorter a, takes_shorter k.Key i.0 (skip a) b i.1, skip_shorter b)

  pub indexes_shorter : {ns : List ℤ} {from to : Lexemes} → g.IndexesAt text ns from to → length to ≤ length from
  indexes_shorter (g.no_index {ts = ts}) = skip_shorter ts
  indexes_shorter (g.one_index {from = from} a b c i more) =
      omega (arith, eats_shorter k.Comma from a c, skip_shorter a, takes_shorter k.Key i.0 (skip a) b i.1, indexes_shorter more)

  pub names_shorter : {ss : List StrRange} {from to : Lexemes} → g.NamesAt text ss from to → length to ≤ length from
  names_shorter g.no_name = omega arith
  names_shorter (g.one_name {s = s} {from = from} a b c q more) =
      omega (arith, eats_shorter k.Comma from a c, skip_shorter a, quoted_shorter s (skip a) b q, skip_shorter b, names_shorter more)

  pub word_shorter : {token : ParseToken} {from to : Lexemes} → g.WordAt text token from to → length from ≡ suc (length to)
  word_shorter h = grind arith

  pub plain_shorter : {token : ParseToken} {from to : Lexemes} → g.PlainAt text token from to → length to ≤ length from
  plain_shorter (g.in_all {from = from} a h) = omega (arith, eats_shorter k.Asterisk from a h, skip_shorter a)
  plain_shorter (g.in_index {from = from} a i) = omega (arith, takes_shorter k.Key i.0 from a i.1, skip_shorter a)
  plain_shorter (g.in_union {from = from} a b c i h j more) =
      omega (arith, takes_shorter k.Key i.0 from a i.1, skip_shorter a, eats_shorter k.Comma (skip a) b h, skip_shorter b, takes_shorter k.Key j.0 (skip b) c j.1, indexes_shorter more)
  plain_shorter (g.in_range a b c low h high step_part_at) = grind (arith, bound_shorter, skip_shorter, step_part_shorter)
  plain_shorter (g.in_name {s = s} {from = from} a q) = omega (arith, quoted_shorter s from a q, skip_shorter a)
  plain_shorter (g.in_names {s = s} {s' = s'} {from = from} a b c q h r more) =
      omega (arith, quoted_shorter s from a q, eats_shorter k.Comma a b h, skip_shorter b, quoted_shorter s' (skip b) c r, skip_shorter c, names_shorter more)

  pub literal_shorter : {token : ParseToken} {from to : Lexemes} → g.LiteralAt text token from to → length to ≤ length from
  literal_shorter h = grind arith

  mutual
    pub steps_shorter : {n : ℕ} {ss : PathSteps} {from to : Lexemes} → g.StepsAt text n ss from to → length to ≤ length from
    steps_shorter g.no_step = omega arith
    steps_shorter (g.one_step mid s more) = omega (arith, step_shorter s, steps_shorter more)

    pub step_shorter : {n : ℕ} {leaves bracket : Bool} {inner : Inner} {from to : Lexemes} → g.StepAt text n leaves bracket inner from to → length to < length from
    step_shorter (g.dot {from = from} a h w) = omega (arith, eats_shorter k.Dot from a h, word_shorter w)
    step_shorter (g.dots {from = from} a b h i w) = omega (arith, eats_shorter k.Dot from a h, eats_shorter k.Dot a b i, word_shorter w)
    step_shorter (g.bracket {from = from} {to = to} a b h i e) = omega (arith, eats_shorter k.OpenArray from a h, skip_shorter a, inner_shorter i, eats_shorter k.CloseArray b to e)
    step_shorter (g.dot_bracket {from = from} {to = to} a b c h o i e) =
        omega (arith, eats_shorter k.Dot from a h, eats_shorter k.OpenArray a b o, inner_shorter i, eats_shorter k.CloseArray c to e)
    step_shorter (g.dots_bracket {from = from} {to = to} a b c d h j o i e) =
        omega (arith, eats_shorter k.Dot from a h, eats_shorter k.Dot a b j, eats_shorter k.OpenArray b c o, skip_shorter c, inner_shorter i, eats_shorter k.CloseArray d to e)

    pub inner_shorter : {n : ℕ} {inner : Inner} {from to : Lexemes} → g.InnerAt text n inner from to → length to ≤ length from
    inner_shorter (g.in_plain p) = plain_shorter p
    inner_shorter (g.in_filter {from = from} a b d h o c) =
        omega (arith, eats_shorter k.Question from a h, eats_shorter k.OpenParenthesis a b o, condition_shorter c, skip_shorter d)

    pub condition_shorter : {n : ℕ} {c : Condition} {from to : Lexemes} → g.ConditionAt text n c from to → length to ≤ length from
    condition_shorter (g.closed {from = from} {to = to} a p e) = omega (arith, skip_shorter from, part_shorter p, skip_shorter a, eats_shorter k.CloseParenthesis (skip a) to e)
    condition_shorter (g.joined {from = from} kind a b p o e c) = omega (arith, skip_shorter from, part_shorter p, skip_shorter a, eats_shorter kind (skip a) b e, condition_shorter c)

    pub part_shorter : {n : ℕ} {c : Condition} {from to : Lexemes} → g.PartAt text n c from to → length to ≤ length from
    part_shorter (g.parentheses {from = from} a h c) = omega (arith, eats_shorter k.OpenParenthesis from a h, condition_shorter c)
    part_shorter (g.compared kind a b l o e r) = omega (arith, term_shorter l, skip_shorter a, eats_shorter kind (skip a) b e, skip_shorter b, term_shorter r)
    part_shorter (g.found {from = from} a h ss) = omega (arith, eats_shorter k.At from a h, steps_shorter ss)

    pub term_shorter : {n : ℕ} {t : Term} {from to : Lexemes} → g.TermAt text n t from to → length to ≤ length from
    term_shorter (g.relative {from = from} a h ss) = omega (arith, eats_shorter k.At from a h, steps_shorter ss)
    term_shorter (g.absolute {from = from} a h ss) = omega (arith, eats_shorter k.Absolute from a h, steps_shorter ss)
    term_shorter (g.of_literal l) = literal_shorter l
