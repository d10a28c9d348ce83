-- What is spelled is what the parser reads.
use Rattle.std.proofs.Common.{◌≡◌, ◌<◌, ℕ, zero, suc, Bool, true, false, List, [], ◌∷◌, length, Option, Some, None, ℤ, refl, sym, ◌∙◌, ap, cond, arith, rules}
use Rattle.std.specs.Prelude.{◌||◌, is_some}
use Rattle.jsonpath_paths.specs.declared.text.str_reader.StrRange.{StrRange}
use Rattle.jsonpath_paths.specs.declared.token.tokens.FilterToken.{FilterToken}
use Rattle.jsonpath_paths.specs.declared.token.tokens.Kind.{Kind}
use Rattle.jsonpath_paths.specs.declared.token.tokens.Kind.TheVariants as k
use Rattle.jsonpath_paths.specs.declared.token.tokens.ParseToken.{ParseToken}
use Rattle.jsonpath_paths.specs.declared.token.tokens.ParseToken.TheVariants as t
use Rattle.jsonpath_paths.specs.Grammar as grammar
use Rattle.jsonpath_paths.proofs.parser.FormLemmas as g
use Rattle.jsonpath_paths.specs.Grammar.{Lexemes, Takes}
use Rattle.jsonpath_paths.proofs.parser.FormLemmas.{Eats, Quoted}
use Rattle.jsonpath_paths.specs.Numbers.{index_of}
use Rattle.jsonpath_paths.specs.text.Characters.{bytes_at}
use Rattle.jsonpath_paths.specs.tree.Tree.{Path, PathSteps, Inner, Condition, Term}
use Rattle.jsonpath_paths.specs.tree.Tree as tree
use Rattle.jsonpath_paths.specs.token.Kinds.{same_kind}
use Rattle.jsonpath_paths.specs.plan.ParsedParts as d
use Rattle.jsonpath_paths.specs.plan.ParsedParts.{Read, ◌>>=◌, choose, only_if, take_token, eat, quoted_at, by_kind, skip}
use Rattle.jsonpath_paths.proofs.parser.SameKindLemmas.{true_same_kind}
use Rattle.jsonpath_paths.proofs.parser.SoundLemmas.{some_same}
use Rattle.jsonpath_paths.proofs.parser.WordLemmas.{digits_no_truth}
use Rattle.jsonpath_paths.proofs.parser.ShorterLemmas.{skip_shorter, takes_shorter, eats_shorter, quoted_shorter, step_shorter}

bind_to : {A B : Type 0} (o : Option A) (f : A → Option B) (x : A) (y : Option B) → o ≡ Some x → f x ≡ y → (o >>= f) ≡ y
bind_to o f x y e h = ap (λ o. o >>= f) e ∙ h

choose_to : {A B : Type 0} (o : Option A) (f : A → Option B) (other : Option B) (x : A) (y : Option B) → o ≡ Some x → f x ≡ y → choose o f other ≡ y
choose_to o f other x y e h = ap (λ o. choose o f other) e ∙ h

choose_past : {A B : Type 0} (o : Option A) (f : A → Option B) (other y : Option B) → o ≡ None → other ≡ y → choose o f other ≡ y
choose_past o f other y e h = ap (λ o. choose o f other) e ∙ h

-- the first token

takes_take : (kind : Kind) (s : StrRange) (from to : Lexemes) → Takes kind s from to → take_token kind from ≡ Some (s, to)
takes_take kind s from to h = ap (take_token kind) h ∙ ap (λ b. only_if b (s, to)) (true_same_kind kind kind refl)

takes_other : (kind other : Kind) (s : StrRange) (from to : Lexemes) → Takes kind s from to → same_kind kind other ≡ false → take_token other from ≡ None
takes_other kind other s from to h e = ap (take_token other) h ∙ ap (λ b. only_if b (s, to)) e

eats_eat : (kind : Kind) (from to : Lexemes) → Eats kind from to → eat kind from ≡ Some to
eats_eat kind from to h = bind_to (take_token kind from) _ (h.0, to) _ (takes_take kind h.0 from to h.1) refl

none_eat : (kind : Kind) (from : Lexemes) → take_token kind from ≡ None → eat kind from ≡ None
none_eat kind from h = ap (λ o. o >>= λ s. Some s.1) h

other_eat : (kind other : Kind) (s : StrRange) (from to : Lexemes) → Takes kind s from to → same_kind kind other ≡ false → eat other from ≡ None
other_eat kind other s from to h e = none_eat other from (takes_other kind other s from to h e)

behind_blank : (kind other : Kind) (from to : Lexemes) → Eats kind (skip from) to → same_kind kind other ≡ false → same_kind k.Whitespace other ≡ false → take_token other from ≡ None
unfolding skip
behind_blank kind other [] to h e f = refl
behind_blank kind other (p ∷ ps) to h e f = by_test (same_kind p.kind k.Whitespace) refl h
  where
    by_test : (b : Bool) → same_kind p.kind k.Whitespace ≡ b → Eats kind (cond b ps (p ∷ ps)) to → take_token other (p ∷ ps) ≡ None
    by_test b is next = grind arith

complete_quoted : (s : StrRange) (from to : Lexemes) → Quoted s from to → quoted_at from ≡ Some (s, to)
complete_quoted s from to h = grind arith

quoted_other : (other : Kind) (s : StrRange) (from to : Lexemes) → Quoted s from to → same_kind k.SingleQuoted other ≡ false → same_kind k.DoubleQuoted other ≡ false
    → take_token other from ≡ None
quoted_other other s from to h e f = grind arith

complete_by_kind : (f : Kind → Option FilterToken) (kind : Kind) (o : FilterToken) (from to : Lexemes) → f kind ≡ Some o → Eats kind from to → by_kind f from ≡ Some (o, to)
complete_by_kind f kind o from to e h = ap (by_kind f) h.1 ∙ ap (λ x. x >>= λ y. Some (y, to)) e

none_by_kind : (f : Kind → Option FilterToken) (kind : Kind) (from to : Lexemes) → f kind ≡ None → Eats kind from to → by_kind f from ≡ None
none_by_kind f kind from to e h = ap (by_kind f) h.1 ∙ ap (λ x. x >>= λ y. Some (y, to)) e

module _ (text : List ℕ) where
  complete_index : (n : ℤ) (from to : Lexemes) → g.IndexAt text n from to → d.index_at text from ≡ Some (n, to)
  complete_index n from to i = grind arith

  complete_bound : {low : Option ℤ} {from to : Lexemes} → g.BoundAt text low from to → take_token k.Key to ≡ None → d.range_bound_at text from ≡ Some (low, to)
  complete_bound (g.no_bound {ts = ts}) e = choose_past (take_token k.Key ts) _ _ _ e refl
  complete_bound (g.bound {n = n} {from = from} mid i) e = grind arith

  complete_step_part : {pace : Option ℕ} {from to : Lexemes} → g.StepPartAt text pace from to → take_token k.Key to ≡ None → eat k.Split to ≡ None → d.range_step_part_at text from ≡ Some (pace, to)
  complete_step_part (g.no_step_part {ts = ts}) e f = choose_past (eat k.Split ts) _ _ _ f refl
  complete_step_part (g.bare_colon {from = from} a c) e f = grind arith
  complete_step_part (g.step_part {n = n} {from = from} a b c i) e f = grind arith

  complete_indexes : {ns : List ℤ} {from to : Lexemes} → g.IndexesAt text ns from to → (rest : Lexemes) → Eats k.CloseArray to rest → (fuel : ℕ) → length from < fuel
      → d.more_indexes_at text fuel from ≡ Some (ns, to)
  complete_indexes h rest close zero less = absurd (omega arith)
  complete_indexes (g.no_index {ts = ts}) rest close (suc fuel) less =
      choose_past (eat k.Comma ts) _ _ _ (none_eat k.Comma ts (behind_blank k.CloseArray k.Comma ts rest close refl refl)) refl
  complete_indexes (g.one_index {n = n} {ns = ns} {from = from} {to = to} a b c i more) rest close (suc fuel) less =
      let shorter : length b < fuel = omega (arith, less, eats_shorter k.Comma from a c, skip_shorter a, takes_shorter k.Key i.0 (skip a) b i.1) in
      choose_to (eat k.Comma from) _ _ a _ (eats_eat k.Comma from a c)
      (bind_to (d.index_at text (skip a)) _ (n, b) _ (complete_index n (skip a) b i)
      (bind_to (d.more_indexes_at text fuel b) _ (ns, to) _ (complete_indexes more rest close fuel shorter) refl))

  complete_names : (fuel : ℕ) {ss : List StrRange} {from to : Lexemes} → g.NamesAt text ss from to → (rest : Lexemes) → Eats k.CloseArray to rest → length from < fuel
      → d.more_names_at text fuel from ≡ Some (ss, to)
  complete_names zero h rest close less = absurd (omega arith)
  complete_names (suc fuel) (g.no_name {ts = ts}) rest close less = grind arith
  complete_names (suc fuel) (g.one_name {s = s} {ss = ss} {from = from} {to = to} a b c q more) rest close less =
      let shorter : length (skip b) < fuel = omega (arith, less, eats_shorter k.Comma from a c, skip_shorter a, quoted_shorter s (skip a) b q, skip_shorter b) in
      choose_to (eat k.Comma from) _ _ a _ (eats_eat k.Comma from a c)
      (bind_to (quoted_at (skip a)) _ (s, b) _ (complete_quoted s (skip a) b q)
      (bind_to (d.more_names_at text fuel (skip b)) _ (ss, to) _ (complete_names fuel more rest close shorter) refl))

  complete_word : {token : ParseToken} {from to : Lexemes} → g.WordAt text token from to → d.step_word_at text from ≡ Some (token, to)
  complete_word (g.dot_word {s = s} {from = from} {to = to} h) = choose_to (take_token k.Key from) _ _ (s, to) _ (takes_take k.Key s from to h) refl
  complete_word (g.dot_all {from = from} {to = to} h) = grind arith

  complete_range : {low high : Option ℤ} {pace : Option ℕ} (b c to rest : Lexemes) → g.BoundAt text high (skip b) c → g.StepPartAt text pace c to → Eats k.CloseArray to rest
      → take_token k.Key c ≡ None → d.rest_of_range text low b ≡ Some (t.Range low high pace, to)
  complete_range {high = high} {pace = pace} b c to rest high_at step_part_at close e = grind (arith, bind_to, complete_bound, complete_step_part, other_eat)

  -- a colon or a bracket stands where a range's pace begins
  step_part_key : {pace : Option ℕ} {c to : Lexemes} (rest : Lexemes) → g.StepPartAt text pace c to → Eats k.CloseArray to rest → take_token k.Key c ≡ None
  step_part_key rest h close = grind arith

  complete_plain : {token : ParseToken} {from to : Lexemes} → g.PlainAt text token from to → (rest : Lexemes) → Eats k.CloseArray to rest → d.plain_at text from ≡ Some (token, to)
  unfolding d.plain_at
  complete_plain (g.in_all {from = from} a h) rest close = choose_to (eat k.Asterisk from) _ _ a _ (eats_eat k.Asterisk from a h) refl
  complete_plain (g.in_index {n = n} {from = from} a i) rest close = grind arith
  complete_plain (g.in_union {n = n} {m = m} {ns = ns} {from = from} {to = to} a b c i h j more) rest close =
      choose_past (eat k.Asterisk from) _ _ _ (other_eat k.Key k.Asterisk i.0 from a i.1 refl)
      (choose_to (take_token k.Key from) _ _ (i.0, a) _ (takes_take k.Key i.0 from a i.1)
      (bind_to (index_of (bytes_at text i.0)) _ n _ i.2
      (choose_to (eat k.Comma (skip a)) _ _ b _ (eats_eat k.Comma (skip a) b h)
      (bind_to (d.index_at text (skip b)) _ (m, c) _ (complete_index m (skip b) c j)
      (bind_to (d.with_more_indexes text (n ∷ m ∷ []) c) _ (n ∷ m ∷ ns, to) _
      (bind_to (d.more_indexes_at text (suc (length c)) c) _ (ns, to) _ (complete_indexes more rest close (suc (length c)) (omega arith)) refl) refl)))))
  complete_plain (g.in_range {to = to} a b c (g.no_bound {ts = ts}) h high step_part_at) rest close = search (rules, arith, choose_past, choose_to, complete_range, eats_eat, other_eat, step_part_key, takes_other)
  complete_plain (g.in_range {to = to} a b c (g.bound {n = n} {from = from} mid i) h high step_part_at) rest close =
      choose_past (eat k.Asterisk from) _ _ _ (other_eat k.Key k.Asterisk i.0 from mid i.1 refl)
      (choose_to (take_token k.Key from) _ _ (i.0, mid) _ (takes_take k.Key i.0 from mid i.1)
      (bind_to (index_of (bytes_at text i.0)) _ n _ i.2
      (choose_past (eat k.Comma (skip mid)) _ _ _ (other_eat k.Split k.Comma h.0 (skip mid) b h.1 refl)
      (choose_to (eat k.Split (skip mid)) _ _ b _ (eats_eat k.Split (skip mid) b h) (complete_range b c to rest high step_part_at close (step_part_key rest step_part_at close))))))
  complete_plain (g.in_name {s = s} {from = from} a q) rest close =
      choose_past (eat k.Asterisk from) _ _ _ (none_eat k.Asterisk from (quoted_other k.Asterisk s from a q refl refl))
      (choose_past (take_token k.Key from) _ _ _ (quoted_other k.Key s from a q refl refl)
      (choose_past (eat k.Split from) _ _ _ (none_eat k.Split from (quoted_other k.Split s from a q refl refl))
      (bind_to (quoted_at from) _ (s, a) _ (complete_quoted s from a q)
      (choose_past (eat k.Comma a) _ _ _ (none_eat k.Comma a (behind_blank k.CloseArray k.Comma a rest close refl refl)) refl))))
  complete_plain (g.in_names {s = s} {ss = ss} {s' = s'} {from = from} {to = to} a b c q h r more) rest close =
      choose_past (eat k.Asterisk from) _ _ _ (none_eat k.Asterisk from (quoted_other k.Asterisk s from a q refl refl))
      (choose_past (take_token k.Key from) _ _ _ (quoted_other k.Key s from a q refl refl)
      (choose_past (eat k.Split from) _ _ _ (none_eat k.Split from (quoted_other k.Split s from a q refl refl))
      (bind_to (quoted_at from) _ (s, a) _ (complete_quoted s from a q)
      (choose_to (eat k.Comma a) _ _ b _ (eats_eat k.Comma a b h)
      (bind_to (quoted_at (skip b)) _ (s', c) _ (complete_quoted s' (skip b) c r)
      (bind_to (d.with_more_names text (s ∷ s' ∷ []) (skip c)) _ (s ∷ s' ∷ ss, to) _
      (bind_to (d.more_names_at text (suc (length (skip c))) (skip c)) _ (ss, to) _ (complete_names (suc (length (skip c))) more rest close (omega arith)) refl) refl))))))

  -- what stands behind a term: no dot and no bracket
  complete_literal : {token : ParseToken} {from to : Lexemes} → g.LiteralAt text token from to → eat k.Dot to ≡ None → d.literal_at text from ≡ Some (token, to)
  unfolding d.literal_at
  complete_literal (g.quoted {s = s} {from = from} {to = to} q) e = grind arith
  complete_literal (g.truth {b = b} {from = from} {to = to} s h f) e = grind arith
  complete_literal (g.number (g.whole {d = x} {from = from} {to = to} s h f)) e = grind (arith, bind_to, choose_past, choose_to, digits_no_truth)
  complete_literal (g.number (g.point {d = x} {from = from} {to = to} s a b f h i j v)) e = grind (arith, bind_to, choose_past, choose_to, digits_no_truth, eats_eat)

-- what follows a part of a condition

-- neither a comparison, nor what goes on with a step
record Closes (kind : Kind) : Type 0 where
  no_comparison : grammar.comparison kind ≡ None
  no_dot : same_kind kind k.Dot ≡ false
  no_array : same_kind kind k.OpenArray ≡ false

connective_closes : (kind : Kind) (o : FilterToken) → grammar.connective kind ≡ Some o → Closes kind × (same_kind kind k.CloseParenthesis ≡ false)
connective_closes kind o h = grind arith

comparison_stops : (kind : Kind) (o : FilterToken) → grammar.comparison kind ≡ Some o → (same_kind kind k.Dot ≡ false) × (same_kind kind k.OpenArray ≡ false)
comparison_stops kind o h = grind arith

-- no step goes on there
record Stops (ts : Lexemes) : Type 0 where
  no_dot : take_token k.Dot ts ≡ None
  no_array : take_token k.OpenArray ts ≡ None

stops_behind : (kind : Kind) (ts to : Lexemes) → Eats kind (skip ts) to → same_kind kind k.Dot ≡ false → same_kind kind k.OpenArray ≡ false → Stops ts
stops_behind kind ts to h e f = record { no_dot = behind_blank kind k.Dot ts to h e refl; no_array = behind_blank kind k.OpenArray ts to h f refl }

stops_end : (ts : Lexemes) → skip ts ≡ [] → Stops ts
unfolding skip
stops_end ts h = grind arith

-- a test of whether a step begins
no_step_begins : (text : List ℕ) (deeper : Lexemes → Read Condition) (ts : Lexemes) → Stops ts → d.begins_step text deeper ts ≡ false
no_step_begins text deeper ts stops = ap (λ o. is_some o || is_some (take_token k.OpenArray ts)) stops.no_dot ∙ ap is_some stops.no_array

module _ (text : List ℕ) where
  step_begins : {n : ℕ} {leaves bracket : Bool} {inner : Inner} {from to : Lexemes} (deeper : Lexemes → Read Condition) → g.StepAt text n leaves bracket inner from to
      → d.begins_step text deeper from ≡ true
  step_begins deeper h = grind arith

  -- a word behind a dot is neither a dot nor a bracket
  word_other : {token : ParseToken} {from to : Lexemes} (other : Kind) → g.WordAt text token from to → same_kind k.Key other ≡ false → same_kind k.Asterisk other ≡ false
      → eat other from ≡ None
  word_other other h e f = grind (arith, other_eat)

  -- what stands in brackets begins with no question mark, but for a filter
  plain_other : {token : ParseToken} {from to : Lexemes} → g.PlainAt text token from to → eat k.Question from ≡ None
  plain_other h = grind arith

  literal_other : {token : ParseToken} {from to : Lexemes} (other : Kind) → g.LiteralAt text token from to → same_kind k.Key other ≡ false → same_kind k.SingleQuoted other ≡ false
      → same_kind k.DoubleQuoted other ≡ false → eat other from ≡ None
  literal_other other h e f v = grind (arith, none_eat, other_eat, quoted_other)

  term_other : {n : ℕ} {term : Term} {from to : Lexemes} → g.TermAt text n term from to → eat k.OpenParenthesis from ≡ None
  term_other h = grind (arith, literal_other)

  mutual
    unfolding d.step_at d.array_at d.inner_at d.part_at d.term_at d.steps_at d.condition_by

    complete_steps : {n : ℕ} {ss : PathSteps} {from to : Lexemes} → g.StepsAt text n ss from to → Stops to → (fuel : ℕ) → length from < fuel
        → d.steps_from text (d.condition_at text n) fuel from ≡ Some (ss, to)
    complete_steps h stops zero less = absurd (omega arith)
    complete_steps (g.no_step {n = n} {ts = ts}) stops (suc fuel) less =
        ap (λ b. cond b (d.step_at text (d.condition_at text n) ts >>= λ s. d.steps_from text (d.condition_at text n) fuel s.1 >>= λ ss. Some (tree.step_then s.0.0 s.0.1 s.0.2 ss.0, ss.1))
        (Some (tree.no_steps, ts))) (no_step_begins text (d.condition_at text n) ts stops)
    complete_steps (g.one_step {n = n} {leaves = l} {bracket = b} {inner = i} {ss = ss} {from = from} {to = to} mid s more) stops (suc fuel) less =
        ap (λ b. cond b (d.step_at text (d.condition_at text n) from >>= λ s. d.steps_from text (d.condition_at text n) fuel s.1 >>= λ ss. Some (tree.step_then s.0.0 s.0.1 s.0.2 ss.0, ss.1))
        (Some (tree.no_steps, from))) (step_begins (d.condition_at text n) s)
        ∙ bind_to (d.step_at text (d.condition_at text n) from) _ ((l, b, i), mid) _ (complete_step s)
        (bind_to (d.steps_from text (d.condition_at text n) fuel mid) _ (ss, to) _ (complete_steps more stops fuel (omega (arith, step_shorter text s))) refl)

    complete_step : {n : ℕ} {leaves bracket : Bool} {inner : Inner} {from to : Lexemes} → g.StepAt text n leaves bracket inner from to
        → d.step_at text (d.condition_at text n) from ≡ Some ((leaves, bracket, inner), to)
    complete_step (g.dot {n = n} {token = token} {from = from} {to = to} a h w) =
        choose_past (eat k.OpenArray from) _ _ _ (other_eat k.Dot k.OpenArray h.0 from a h.1 refl)
        (bind_to (eat k.Dot from) _ a _ (eats_eat k.Dot from a h)
        (choose_past (eat k.Dot a) _ _ _ (word_other k.Dot w refl refl)
        (choose_past (eat k.OpenArray a) _ _ _ (word_other k.OpenArray w refl refl)
        (bind_to (d.step_word_at text a) _ (token, to) _ (complete_word text w) refl))))
    complete_step (g.dots {n = n} {token = token} {from = from} {to = to} a b h i w) =
        choose_past (eat k.OpenArray from) _ _ _ (other_eat k.Dot k.OpenArray h.0 from a h.1 refl)
        (bind_to (eat k.Dot from) _ a _ (eats_eat k.Dot from a h)
        (choose_to (eat k.Dot a) _ _ b _ (eats_eat k.Dot a b i)
        (choose_past (eat k.OpenArray b) _ _ _ (word_other k.OpenArray w refl refl)
        (bind_to (d.step_word_at text b) _ (token, to) _ (complete_word text w) refl))))
    complete_step (g.bracket {n = n} {inner = inner} {from = from} {to = to} a b h i e) =
        choose_to (eat k.OpenArray from) _ _ a _ (eats_eat k.OpenArray from a h)
        (bind_to (d.inner_at text (d.condition_at text n) (skip a)) _ (inner, b) _ (complete_inner i to e) (bind_to (eat k.CloseArray b) _ to _ (eats_eat k.CloseArray b to e) refl))
    complete_step (g.dot_bracket {n = n} {inner = inner} {from = from} {to = to} a b c h o i e) =
        choose_past (eat k.OpenArray from) _ _ _ (other_eat k.Dot k.OpenArray h.0 from a h.1 refl)
        (bind_to (eat k.Dot from) _ a _ (eats_eat k.Dot from a h)
        (choose_past (eat k.Dot a) _ _ _ (other_eat k.OpenArray k.Dot o.0 a b o.1 refl)
        (choose_to (eat k.OpenArray a) _ _ b _ (eats_eat k.OpenArray a b o)
        (bind_to (d.inner_at text (d.condition_at text n) b) _ (inner, c) _ (complete_inner i to e) (bind_to (eat k.CloseArray c) _ to _ (eats_eat k.CloseArray c to e) refl)))))
    complete_step (g.dots_bracket {n = n} {inner = inner} {from = from} {to = to} a b c x h j o i e) =
        choose_past (eat k.OpenArray from) _ _ _ (other_eat k.Dot k.OpenArray h.0 from a h.1 refl)
        (bind_to (eat k.Dot from) _ a _ (eats_eat k.Dot from a h)
        (choose_to (eat k.Dot a) _ _ b _ (eats_eat k.Dot a b j)
        (choose_to (eat k.OpenArray b) _ _ c _ (eats_eat k.OpenArray b c o)
        (bind_to (d.inner_at text (d.condition_at text n) (skip c)) _ (inner, x) _ (complete_inner i to e) (bind_to (eat k.CloseArray x) _ to _ (eats_eat k.CloseArray x to e) refl)))))

    complete_inner : {n : ℕ} {inner : Inner} {from to : Lexemes} → g.InnerAt text n inner from to → (rest : Lexemes) → Eats k.CloseArray to rest
        → d.inner_at text (d.condition_at text n) from ≡ Some (inner, to)
    complete_inner (g.in_plain {token = token} {from = from} {to = to} p) rest close =
        choose_past (eat k.Question from) _ _ _ (plain_other p) (bind_to (d.plain_at text from) _ (token, to) _ (complete_plain text p rest close) refl)
    complete_inner (g.in_filter {n = n} {c = c} {from = from} a b x h o i) rest close =
        choose_to (eat k.Question from) _ _ a _ (eats_eat k.Question from a h)
        (bind_to (eat k.OpenParenthesis a) _ b _ (eats_eat k.OpenParenthesis a b o) (bind_to (d.condition_by text (d.condition_at text n) b) _ (c, x) _ (complete_condition i) refl))

    pub complete_condition : {n : ℕ} {c : Condition} {from to : Lexemes} → g.ConditionAt text n c from to → d.condition_by text (d.condition_at text n) from ≡ Some (c, to)
    complete_condition (g.closed {n = n} {c = c} {from = from} {to = to} a p e) =
        bind_to (d.part_at text (d.condition_at text n) (skip from)) _ (c, a) _
        (complete_part p k.CloseParenthesis to e (record { no_comparison = refl; no_dot = refl; no_array = refl }))
        (choose_to (eat k.CloseParenthesis (skip a)) _ _ to _ (eats_eat k.CloseParenthesis (skip a) to e) refl)
    complete_condition (g.joined {n = n} {c = c} {d = x} {o = o} {from = from} {to = to} kind a b p f e i) =
        let closes = connective_closes kind o f in
        bind_to (d.part_at text (d.condition_at text (suc n)) (skip from)) _ (c, a) _ (complete_part p kind b e closes.0)
        (choose_past (eat k.CloseParenthesis (skip a)) _ _ _ (other_eat kind k.CloseParenthesis e.0 (skip a) b e.1 closes.1)
        (bind_to (by_kind grammar.connective (skip a)) _ (o, b) _ (complete_by_kind grammar.connective kind o (skip a) b f e)
        (bind_to (d.condition_by text (d.condition_at text n) b) _ (x, to) _ (complete_condition i) refl)))

    complete_part : {n : ℕ} {c : Condition} {from to : Lexemes} → g.PartAt text n c from to → (kind : Kind) (rest : Lexemes) → Eats kind (skip to) rest → Closes kind
        → d.part_at text (d.condition_at text n) from ≡ Some (c, to)
    complete_part (g.parentheses {n = n} {from = from} a h i) kind rest next closes =
        choose_to (eat k.OpenParenthesis from) _ _ a _ (eats_eat k.OpenParenthesis from a h) (complete_condition i)
    complete_part (g.found {n = n} {ss = ss} {from = from} {to = to} a h i) kind rest next closes =
        choose_past (eat k.OpenParenthesis from) _ _ _ (other_eat k.At k.OpenParenthesis h.0 from a h.1 refl)
        (choose_to (eat k.At from) _ _ a _ (eats_eat k.At from a h)
        (bind_to (d.steps_at text (d.condition_at text n) a) _ (ss, to) _ (complete_steps i (stops_behind kind to rest next closes.no_dot closes.no_array) (suc (length a)) (omega arith))
        (choose_past (by_kind grammar.comparison (skip to)) _ _ _ (none_by_kind grammar.comparison kind (skip to) rest closes.no_comparison next) refl)))
    complete_part (g.compared {n = n} {r = r} {o = o} {to = to} op mid b (g.relative {ss = ss} {from = from} a h i) f e right) kind rest next closes =
        let op_stops = comparison_stops op o f in
        choose_past (eat k.OpenParenthesis from) _ _ _ (other_eat k.At k.OpenParenthesis h.0 from a h.1 refl)
        (choose_to (eat k.At from) _ _ a _ (eats_eat k.At from a h)
        (bind_to (d.steps_at text (d.condition_at text n) a) _ (ss, mid) _ (complete_steps i (stops_behind op mid b e op_stops.0 op_stops.1) (suc (length a)) (omega arith))
        (choose_to (by_kind grammar.comparison (skip mid)) _ _ (o, b) _ (complete_by_kind grammar.comparison op o (skip mid) b f e)
        (bind_to (d.term_at text (d.condition_at text n) (skip b)) _ (r, to) _ (complete_term right (stops_behind kind to rest next closes.no_dot closes.no_array)) refl))))
    complete_part (g.compared {n = n} {r = r} {o = o} {to = to} op mid b (g.absolute {ss = ss} {from = from} a h i) f e right) kind rest next closes =
        let op_stops = comparison_stops op o f in
        choose_past (eat k.OpenParenthesis from) _ _ _ (term_other (g.absolute {n = n} {ss = ss} {from = from} {to = mid} a h i))
        (choose_past (eat k.At from) _ _ _ (other_eat k.Absolute k.At h.0 from a h.1 refl)
        (bind_to (d.term_at text (d.condition_at text n) from) _ (tree.at_path (tree.path true ss), mid) _
        (choose_past (eat k.At from) _ _ _ (other_eat k.Absolute k.At h.0 from a h.1 refl)
        (choose_to (eat k.Absolute from) _ _ a _ (eats_eat k.Absolute from a h)
        (bind_to (d.steps_at text (d.condition_at text n) a) _ (ss, mid) _ (complete_steps i (stops_behind op mid b e op_stops.0 op_stops.1) (suc (length a)) (omega arith)) refl)))
        (bind_to (by_kind grammar.comparison (skip mid)) _ (o, b) _ (complete_by_kind grammar.comparison op o (skip mid) b f e)
        (bind_to (d.term_at text (d.condition_at text n) (skip b)) _ (r, to) _ (complete_term right (stops_behind kind to rest next closes.no_dot closes.no_array)) refl))))
    complete_part (g.compared {n = n} {r = r} {o = o} {to = to} op mid b (g.of_literal {token = token} {from = from} lit) f e right) kind rest next closes =
        let op_stops = comparison_stops op o f in
        choose_past (eat k.OpenParenthesis from) _ _ _ (term_other (g.of_literal {n = n} {token = token} {from = from} {to = mid} lit))
        (choose_past (eat k.At from) _ _ _ (literal_other k.At lit refl refl refl)
        (bind_to (d.term_at text (d.condition_at text n) from) _ (tree.literal token, mid) _
        (choose_past (eat k.At from) _ _ _ (literal_other k.At lit refl refl refl)
        (choose_past (eat k.Absolute from) _ _ _ (literal_other k.Absolute lit refl refl refl)
        (bind_to (d.literal_at text from) _ (token, mid) _ (complete_literal text lit (none_eat k.Dot mid (stops_behind op mid b e op_stops.0 op_stops.1).no_dot)) refl)))
        (bind_to (by_kind grammar.comparison (skip mid)) _ (o, b) _ (complete_by_kind grammar.comparison op o (skip mid) b f e)
        (bind_to (d.term_at text (d.condition_at text n) (skip b)) _ (r, to) _ (complete_term right (stops_behind kind to rest next closes.no_dot closes.no_array)) refl))))

    complete_term : {n : ℕ} {term : Term} {from to : Lexemes} → g.TermAt text n term from to → Stops to → d.term_at text (d.condition_at text n) from ≡ Some (term, to)
    complete_term (g.relative {n = n} {ss = ss} {from = from} {to = to} a h i) stops =
        choose_to (eat k.At from) _ _ a _ (eats_eat k.At from a h)
        (bind_to (d.steps_at text (d.condition_at text n) a) _ (ss, to) _ (complete_steps i stops (suc (length a)) (omega arith)) refl)
    complete_term (g.absolute {n = n} {ss = ss} {from = from} {to = to} a h i) stops =
        choose_past (eat k.At from) _ _ _ (other_eat k.Absolute k.At h.0 from a h.1 refl)
        (choose_to (eat k.Absolute from) _ _ a _ (eats_eat k.Absolute from a h)
        (bind_to (d.steps_at text (d.condition_at text n) a) _ (ss, to) _ (complete_steps i stops (suc (length a)) (omega arith)) refl))
    complete_term (g.of_literal {token = token} {from = from} {to = to} l) stops =
        choose_past (eat k.At from) _ _ _ (literal_other k.At l refl refl refl)
        (choose_past (eat k.Absolute from) _ _ _ (literal_other k.Absolute l refl refl refl)
        (bind_to (d.literal_at text from) _ (token, to) _ (complete_literal text l (none_eat k.Dot to stops.no_dot)) refl))

  pub complete_path : (ts : Lexemes) (p : Path) → g.PathAt text p ts → d.path_at text ts ≡ Some p
  unfolding d.path_at d.steps_at
  complete_path ts p h =
      bind_to (eat k.Absolute ts) _ h.after_root _ (eats_eat k.Absolute ts h.after_root h.root)
      (bind_to (d.steps_at text (d.condition_at text grammar.levels) h.after_root) _ (h.steps, h.end) _
      (complete_steps h.spelled (stops_end h.end h.only_blanks) (suc (length h.after_root)) (omega arith))
      (ap (d.if_end text h.steps) h.only_blanks ∙ ap Some (sym h.is)))

  -- tokens spell one path at most
  pub one_tree_per_text : (ts : Lexemes) (p q : Path) → g.PathAt text p ts → g.PathAt text q ts → p ≡ q
  one_tree_per_text ts p q a b = some_same p q (sym (complete_path ts p a) ∙ complete_path ts q b)
