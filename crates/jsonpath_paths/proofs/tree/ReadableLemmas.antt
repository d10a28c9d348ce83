-- Each span in a tree that tokens spell is the span of one of these tokens.
use Rattle.std.proofs.Common.{ℕ, suc, Bool, List, [], ◌∷◌, Option, ℤ, sym, subst, All, arith, rules}
use Rattle.std.proofs.lemmas.List.Elements.{All-cons, All-contains, All-nil}
use denote.Ref.{Bor}
use Rattle.jsonpath_paths.specs.plan.ParsedParts.{skip}
use Rattle.jsonpath_paths.specs.declared.text.str_reader.StrRange.{StrRange}
use Rattle.jsonpath_paths.specs.declared.token.tokens.Kind.{Kind}
use Rattle.jsonpath_paths.specs.declared.token.tokens.Kind.TheVariants as k
use Rattle.jsonpath_paths.specs.declared.token.tokens.ParseToken.{ParseToken}
use Rattle.jsonpath_paths.proofs.parser.FormLemmas as g
use Rattle.jsonpath_paths.proofs.parser.DerivationLemmas.{path_form}
use Rattle.jsonpath_paths.specs.Grammar.{Lexemes, Takes, SpellsPath}
use Rattle.jsonpath_paths.proofs.parser.FormLemmas.{Eats, Quoted, quote_kind}
use Rattle.jsonpath_paths.specs.text.Spans.{IsSpan, AreSpans}
use Rattle.jsonpath_paths.specs.tree.Tree.{Path, PathSteps, Inner, Condition, Term}
use Rattle.jsonpath_paths.specs.tree.Tree as tree
use Rattle.jsonpath_paths.specs.declared.token.tokens.ParseToken.TheVariants as t
use Rattle.jsonpath_paths.specs.tree.Visit.{MayRead, MayReadAll, MayReadPath, MayReadSteps, MayReadInner, MayReadCondition, MayReadTerm}

-- what holds of each token by its kind, and what follows of the span of a word or of a quoted text
module _ (Q : Kind → StrRange → Type 0) (P : StrRange → Type 0) (word : (s : StrRange) → Q k.Key s → P s) (quoted : (double : Bool) (s : StrRange) → Q (quote_kind double) s → P s) where
  abbrev Each : Lexemes → Type 0
  Each [] = Unit {0}
  Each (p ∷ ps) = Q p.kind p.span × Each ps

  abbrev pre : Bor StrRange → Type 0
  pre s = P s.now

  each_from : (ts : Lexemes) → All (λ p. Q p.kind p.span) ts → Each ts
  each_from [] h = tt
  each_from (p ∷ ps) h = (h 0 p (omega arith), each_from ps (λ i d within. h (suc i) d (omega (arith, within))))

  skip_each : (ts : Lexemes) → Each ts → Each (skip ts)
  unfolding skip
  skip_each ts h = grind arith

  takes_each : (kind : Kind) (s : StrRange) (from to : Lexemes) → Takes kind s from to → Each from → Q kind s × Each to
  takes_each kind s from to h e = subst Each h e

  eats_each : (kind : Kind) (from to : Lexemes) → Eats kind from to → Each from → Each to
  eats_each kind from to h e = (subst Each h.1 e).1

  quoted_each : (s : StrRange) (from to : Lexemes) → Quoted s from to → Each from → P s × Each to
  quoted_each s from to h e = let here = subst Each h.1 e in (quoted h.0 s here.0, here.1)

  one_read : (s : StrRange) → P s → MayReadAll pre (s ∷ [])
  one_read s h = λ b within. All-contains P (s ∷ []) b.now (All-cons P s [] h (All-nil P)) within

  all_read : (ss : List StrRange) → All P ss → MayReadAll pre ss
  all_read ss h = λ b within. All-contains P ss b.now h within

  module _ (text : List ℕ) where
    bound_each : {low : Option ℤ} {from to : Lexemes} → g.BoundAt text low from to → Each from → Each to
    bound_each h e = grind (arith, skip_each)

    step_part_each : {by : Option ℕ} {from to : Lexemes} → g.StepPartAt text by from to → Each from → Each to
    step_part_each h e = grind (arith, skip_each, takes_each)

    indexes_each : {ns : List ℤ} {from to : Lexemes} → g.IndexesAt text ns from to → Each from → Each to
    indexes_each (g.no_index {ts = ts}) e = skip_each ts e
    indexes_each (g.one_index {from = from} a b c i more) e = grind (arith, eats_each, skip_each, indexes_each more (takes_each k.Key i.0 (skip a) b i.1 (skip_each a (eats_each k.Comma from a c e))).1)

    names_each : {ss : List StrRange} {from to : Lexemes} → g.NamesAt text ss from to → Each from → All P ss × Each to
    names_each g.no_name e = (All-nil P, e)
    names_each (g.one_name {s = s} {ss = ss} {from = from} a b c q more) e =
        let here = quoted_each s (skip a) b q (skip_each a (eats_each k.Comma from a c e)) in
        let rest = names_each more (skip_each b here.1) in
        (All-cons P s ss here.0 rest.0, rest.1)

    word_each : {token : ParseToken} {from to : Lexemes} → g.WordAt text token from to → Each from → MayRead pre token × Each to
    word_each h e = grind arith

    plain_each : {token : ParseToken} {from to : Lexemes} → g.PlainAt text token from to → Each from → MayRead pre token × Each to
    plain_each (g.in_all {from = from} a h) e = (tt, skip_each a (eats_each k.Asterisk from a h e))
    plain_each (g.in_index {from = from} a i) e = (tt, skip_each a (takes_each k.Key i.0 from a i.1 e).1)
    plain_each (g.in_union {from = from} a b c i h j more) e = grind (arith, eats_each, indexes_each, skip_each)
    plain_each (g.in_range a b c low h high by) e = grind (arith, bound_each, skip_each, step_part_each)
    plain_each (g.in_name {s = s} {from = from} a q) e = let here = quoted_each s from a q e in (one_read s here.0, skip_each a here.1)
    plain_each (g.in_names {s = s} {ss = ss} {s' = s'} {from = from} a b c q h r more) e = search (rules, arith, all_read, eats_each, names_each, quoted_each, skip_each)

    literal_each : {token : ParseToken} {from to : Lexemes} → g.LiteralAt text token from to → Each from → MayRead pre token × Each to
    literal_each h e = grind arith

    mutual
      steps_each : {n : ℕ} {ss : PathSteps} {from to : Lexemes} → g.StepsAt text n ss from to → Each from → MayReadSteps pre ss × Each to
      steps_each g.no_step e = (tt, e)
      steps_each (g.one_step mid s more) e =
          let here = step_each s e in
          let rest = steps_each more here.1 in
          ((here.0, rest.0), rest.1)

      step_each : {n : ℕ} {leaves bracket : Bool} {inner : Inner} {from to : Lexemes} → g.StepAt text n leaves bracket inner from to → Each from
          → MayReadInner pre inner × Each to
      step_each (g.dot {from = from} a h w) e = word_each w (eats_each k.Dot from a h e)
      step_each (g.dots {from = from} a b h i w) e = word_each w (eats_each k.Dot a b i (eats_each k.Dot from a h e))
      step_each (g.bracket {from = from} {to = to} a b h i c) e =
          let here = inner_each i (skip_each a (eats_each k.OpenArray from a h e)) in
          (here.0, eats_each k.CloseArray b to c here.1)
      step_each (g.dot_bracket {from = from} {to = to} a b c h o i close) e =
          let here = inner_each i (eats_each k.OpenArray a b o (eats_each k.Dot from a h e)) in
          (here.0, eats_each k.CloseArray c to close here.1)
      step_each (g.dots_bracket {from = from} {to = to} a b c d h j o i close) e =
          let here = inner_each i (skip_each c (eats_each k.OpenArray b c o (eats_each k.Dot a b j (eats_each k.Dot from a h e)))) in
          (here.0, eats_each k.CloseArray d to close here.1)

      inner_each : {n : ℕ} {inner : Inner} {from to : Lexemes} → g.InnerAt text n inner from to → Each from → MayReadInner pre inner × Each to
      inner_each (g.in_plain p) e = plain_each p e
      inner_each (g.in_filter {from = from} a b d h o c) e =
          let here = condition_each c (eats_each k.OpenParenthesis a b o (eats_each k.Question from a h e)) in
          (here.0, skip_each d here.1)

      condition_each : {n : ℕ} {c : Condition} {from to : Lexemes} → g.ConditionAt text n c from to → Each from → MayReadCondition pre c × Each to
      condition_each (g.closed {from = from} {to = to} a p close) e =
          let here = part_each p (skip_each from e) in
          (here.0, eats_each k.CloseParenthesis (skip a) to close (skip_each a here.1))
      condition_each (g.joined {from = from} kind a b p _ o c) e =
          let here = part_each p (skip_each from e) in
          let rest = condition_each c (eats_each kind (skip a) b o (skip_each a here.1)) in
          ((here.0, rest.0), rest.1)

      part_each : {n : ℕ} {c : Condition} {from to : Lexemes} → g.PartAt text n c from to → Each from → MayReadCondition pre c × Each to
      part_each (g.parentheses {from = from} a h c) e = condition_each c (eats_each k.OpenParenthesis from a h e)
      part_each (g.compared kind a b l _ o r) e =
          let left = term_each l e in
          let right = term_each r (skip_each b (eats_each kind (skip a) b o (skip_each a left.1))) in
          ((left.0, right.0), right.1)
      part_each (g.found {from = from} a h ss) e = steps_each ss (eats_each k.At from a h e)

      term_each : {n : ℕ} {t : Term} {from to : Lexemes} → g.TermAt text n t from to → Each from → MayReadTerm pre t × Each to
      term_each (g.relative {from = from} a h ss) e = steps_each ss (eats_each k.At from a h e)
      term_each (g.absolute {from = from} a h ss) e = steps_each ss (eats_each k.Absolute from a h e)
      term_each (g.of_literal l) e = literal_each l e

  -- what holds of each token's span holds of each span of the tree
  pub each_span : (text : List ℕ) (p : Path) (ts : Lexemes) → All (λ q. Q q.kind q.span) ts → SpellsPath text p ts → MayReadPath (λ s. P s.now) p
  each_span text p ts h spelled =
      let form = path_form text spelled in
      let here = steps_each text form.spelled (eats_each k.Absolute ts form.after_root form.root (each_from ts h)) in
      subst (MayReadPath (λ s. P s.now)) (sym form.is) here.0

-- the spans of a tree that tokens of a text spell lie in the text
pub spans_spelled : (text : List ℕ) (p : Path) (ts : Lexemes) → AreSpans text ts → SpellsPath text p ts → MayReadPath (λ s. IsSpan text s.now) p
spans_spelled text p ts h spelled = each_span (λ _ s. IsSpan text s) (IsSpan text) (λ s here. here) (λ _ s here. here) text p ts h spelled

-- what may be read under one condition may be read under a weaker one
module _ (P Q : Bor StrRange → Type 0) (weaker : (s : Bor StrRange) → P s → Q s) where
  token_as : (token : ParseToken) → MayRead P token → MayRead Q token
  token_as token h = grind arith

  mutual
    pub path_as : (p : Path) → MayReadPath P p → MayReadPath Q p
    path_as (tree.path absolute ss) h = steps_as ss h

    steps_as : (ss : PathSteps) → MayReadSteps P ss → MayReadSteps Q ss
    steps_as tree.no_steps h = tt
    steps_as (tree.step_then leaves bracket inner ss) h = (inner_as inner h.0, steps_as ss h.1)

    inner_as : (i : Inner) → MayReadInner P i → MayReadInner Q i
    inner_as (tree.plain token) h = token_as token h
    inner_as (tree.filter c) h = condition_as c h

    condition_as : (c : Condition) → MayReadCondition P c → MayReadCondition Q c
    condition_as (tree.lone p) h = path_as p h
    condition_as (tree.compare a o b) h = (term_as a h.0, term_as b h.1)
    condition_as (tree.join o a b) h = (condition_as a h.0, condition_as b h.1)

    term_as : (x : Term) → MayReadTerm P x → MayReadTerm Q x
    term_as (tree.at_path p) h = path_as p h
    term_as (tree.literal token) h = token_as token h
