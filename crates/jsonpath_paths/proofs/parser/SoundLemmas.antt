-- What the parser reads is spelled so.
use Rattle.std.proofs.Common.{◌≡◌, ◌⊎◌, inl, inr, ℕ, zero, suc, Bool, true, false, List, [], ◌∷◌, length, Option, Some, None, ℤ, refl, sym, ◌∙◌, ap, subst, cond, arith}
use Rattle.jsonpath_paths.specs.declared.text.str_reader.StrRange.{StrRange}
use Rattle.jsonpath_paths.specs.declared.decimal.Decimal.{Decimal}
use Rattle.jsonpath_paths.specs.declared.token.tokens.FilterToken.{FilterToken}
use Rattle.jsonpath_paths.specs.declared.token.tokens.Kind.{Kind}
use Rattle.jsonpath_paths.specs.declared.token.tokens.Kind.TheVariants as k
use Rattle.jsonpath_paths.specs.declared.token.tokens.ParseToken.{ParseToken}
use Rattle.jsonpath_paths.specs.declared.token.tokens.ParseToken.TheVariants as t
use Rattle.jsonpath_paths.specs.Grammar as grammar
use Rattle.jsonpath_paths.proofs.parser.FormLemmas as g
use Rattle.jsonpath_paths.specs.Grammar.{Lexemes, Takes, whole_number}
use Rattle.jsonpath_paths.proofs.parser.FormLemmas.{Eats, Quoted}
use Rattle.jsonpath_paths.specs.Numbers.{index_of, range_step_of, decimal_of}
use Rattle.jsonpath_paths.specs.Literals.{truth_of}
use Rattle.jsonpath_paths.specs.text.Characters.{bytes_at}
use Rattle.jsonpath_paths.specs.tree.Tree.{Path, PathSteps, Inner, Condition, Term}
use Rattle.jsonpath_paths.specs.tree.Tree as tree
use Rattle.jsonpath_paths.specs.plan.ParsedParts as d
use Rattle.jsonpath_paths.specs.plan.ParsedParts.{Read, ◌>>=◌, choose, take_token, eat, quoted_at, by_kind, skip}

pub then_some : {A B : Type 0} (o : Option A) (f : A → Option B) (y : B) → (o >>= f) ≡ Some y → (x : A) × (o ≡ Some x) × (f x ≡ Some y)
then_some o f y h = grind arith

pub choose_some : {A B : Type 0} (o : Option A) (f : A → Option B) (other : Option B) (y : B) → choose o f other ≡ Some y
    → ((x : A) × (o ≡ Some x) × (f x ≡ Some y)) ⊎ ((o ≡ None) × (other ≡ Some y))
choose_some o f other y h = grind arith

pub some_same : {A : Type 0} (x y : A) → Some x ≡ Some y → x ≡ y
some_same x y h = cc

pub take_takes : (kind : Kind) (ts : Lexemes) (r : StrRange × Lexemes) → take_token kind ts ≡ Some r → Takes kind r.0 ts r.1
take_takes kind ts r h = grind arith

pub eat_eats : (kind : Kind) (ts to : Lexemes) → eat kind ts ≡ Some to → Eats kind ts to
eat_eats kind ts to h = grind (arith, some_same, take_takes)

pub sound_quoted : (ts : Lexemes) (r : StrRange × Lexemes) → quoted_at ts ≡ Some r → Quoted r.0 ts r.1
sound_quoted ts r h = grind arith

pub sound_by_kind : (f : Kind → Option FilterToken) (ts : Lexemes) (r : FilterToken × Lexemes) → by_kind f ts ≡ Some r
    → (kind : Kind) × (f kind ≡ Some r.0) × Eats kind ts r.1
sound_by_kind f [] r h = cc
sound_by_kind f (p ∷ ps) r h =
    let a = then_some (f p.kind) _ r h in
    subst (λ z. (kind : Kind) × (f kind ≡ Some z.0) × Eats kind (p ∷ ps) z.1) (some_same (a.0, ps) r a.2) (p.kind, a.1, (p.span, refl))

module _ (text : List ℕ) where
  pub sound_index : (ts : Lexemes) (r : ℤ × Lexemes) → d.index_at text ts ≡ Some r → g.IndexAt text r.0 ts r.1
  sound_index ts r h = grind arith

  pub sound_bound : (ts : Lexemes) (r : Option ℤ × Lexemes) → d.range_bound_at text ts ≡ Some r → g.BoundAt text r.0 ts r.1
  sound_bound ts r h =
      elim (choose_some (take_token k.Key ts) _ _ r h) [
        | inl a ↦
            let b = then_some (index_of (bytes_at text a.0.0)) _ r a.2 in
            subst (λ z. g.BoundAt text z.0 ts z.1) (some_same (Some b.0, skip a.0.1) r b.2) (g.bound a.0.1 (a.0.0, take_takes k.Key ts a.0 a.1, b.1))
        | inr b ↦ subst (λ z. g.BoundAt text z.0 ts z.1) (some_same (None, ts) r b.1) g.no_bound
      ]

  pub sound_step_part : (ts : Lexemes) (r : Option ℕ × Lexemes) → d.range_step_part_at text ts ≡ Some r → g.StepPartAt text r.0 ts r.1
  sound_step_part ts r h =
      elim (choose_some (eat k.Split ts) _ _ r h) [
        | inl c ↦ elim (choose_some (take_token k.Key (skip c.0)) _ _ r c.2) [
          | inl a ↦
              let b = then_some (range_step_of (bytes_at text a.0.0)) _ r a.2 in
              subst (λ z. g.StepPartAt text z.0 ts z.1) (some_same (Some b.0, skip a.0.1) r b.2)
              (g.step_part c.0 a.0.1 (eat_eats k.Split ts c.0 c.1) (a.0.0, take_takes k.Key (skip c.0) a.0 a.1, b.1))
          | inr b ↦ subst (λ z. g.StepPartAt text z.0 ts z.1) (some_same (None, skip c.0) r b.1) (g.bare_colon c.0 (eat_eats k.Split ts c.0 c.1))
        ]
        | inr b ↦ subst (λ z. g.StepPartAt text z.0 ts z.1) (some_same (None, ts) r b.1) g.no_step_part
      ]

  pub sound_indexes : (fuel : ℕ) (ts : Lexemes) (r : List ℤ × Lexemes) → d.more_indexes_at text fuel ts ≡ Some r → g.IndexesAt text r.0 ts r.1
  sound_indexes zero ts r h = cc
  sound_indexes (suc fuel) ts r h =
      elim (choose_some (eat k.Comma ts) _ _ r h) [
        | inl c ↦
            let a = then_some (d.index_at text (skip c.0)) _ r c.2 in
            let b = then_some (d.more_indexes_at text fuel a.0.1) _ r a.2 in
            subst (λ z. g.IndexesAt text z.0 ts z.1) (some_same (a.0.0 ∷ b.0.0, b.0.1) r b.2)
            (g.one_index c.0 a.0.1 (eat_eats k.Comma ts c.0 c.1) (sound_index (skip c.0) a.0 a.1) (sound_indexes fuel a.0.1 b.0 b.1))
        | inr b ↦ subst (λ z. g.IndexesAt text z.0 ts z.1) (some_same ([], skip ts) r b.1) g.no_index
      ]

  pub sound_names : (fuel : ℕ) (ts : Lexemes) (r : List StrRange × Lexemes) → d.more_names_at text fuel ts ≡ Some r → g.NamesAt text r.0 ts r.1
  sound_names zero ts r h = cc
  sound_names (suc fuel) ts r h =
      elim (choose_some (eat k.Comma ts) _ _ r h) [
        | inl c ↦
            let a = then_some (quoted_at (skip c.0)) _ r c.2 in
            let b = then_some (d.more_names_at text fuel (skip a.0.1)) _ r a.2 in
            subst (λ z. g.NamesAt text z.0 ts z.1) (some_same (a.0.0 ∷ b.0.0, b.0.1) r b.2)
            (g.one_name c.0 a.0.1 (eat_eats k.Comma ts c.0 c.1) (sound_quoted (skip c.0) a.0 a.1) (sound_names fuel (skip a.0.1) b.0 b.1))
        | inr b ↦ subst (λ z. g.NamesAt text z.0 ts z.1) (some_same ([], ts) r b.1) g.no_name
      ]

  pub sound_word : (ts : Lexemes) (r : ParseToken × Lexemes) → d.step_word_at text ts ≡ Some r → g.WordAt text r.0 ts r.1
  sound_word ts r h =
      elim (choose_some (take_token k.Key ts) _ _ r h) [
        | inl a ↦ subst (λ z. g.WordAt text z.0 ts z.1) (some_same (t.Key a.0.0, a.0.1) r a.2) (g.dot_word (take_takes k.Key ts a.0 a.1))
        | inr b ↦
            let a = then_some (eat k.Asterisk ts) _ r b.1 in
            subst (λ z. g.WordAt text z.0 ts z.1) (some_same (t.All, a.0) r a.2) (g.dot_all (eat_eats k.Asterisk ts a.0 a.1))
      ]

  -- a range from its first colon on
  sound_range : (low : Option ℤ) (from a : Lexemes) → g.BoundAt text low from a → (b : Lexemes) → Eats k.Split a b → (r : ParseToken × Lexemes)
      → d.rest_of_range text low b ≡ Some r → g.PlainAt text r.0 from r.1
  sound_range low from a low_at b colon r h =
      let x = then_some (d.range_bound_at text (skip b)) _ r h in
      let y = then_some (d.range_step_part_at text x.0.1) _ r x.2 in
      subst (λ z. g.PlainAt text z.0 from z.1) (some_same (t.Range low x.0.0 y.0.0, y.0.1) r y.2)
      (g.in_range a b x.0.1 low_at colon (sound_bound (skip b) x.0 x.1) (sound_step_part x.0.1 y.0 y.1))

  sound_from_index : (n : ℤ) (from a : Lexemes) → g.IndexAt text n from a → (r : ParseToken × Lexemes) → d.index_union_or_range text n (skip a) ≡ Some r → g.PlainAt text r.0 from r.1
  sound_from_index n from a index r h =
      elim (choose_some (eat k.Comma (skip a)) _ _ r h) [
        | inl c ↦
            let x = then_some (d.index_at text (skip c.0)) _ r c.2 in
            let w = then_some (d.with_more_indexes text (n ∷ x.0.0 ∷ []) x.0.1) _ r x.2 in
            let y = then_some (d.more_indexes_at text (suc (length x.0.1)) x.0.1) _ w.0 w.1 in
            subst (λ z. g.PlainAt text z.0 from z.1) (some_same (t.Union (n ∷ x.0.0 ∷ y.0.0), y.0.1) r (ap (λ o. o >>= λ ns. Some (t.Union ns.0, ns.1)) y.2 ∙ w.2))
            (g.in_union a c.0 x.0.1 index (eat_eats k.Comma (skip a) c.0 c.1) (sound_index (skip c.0) x.0 x.1) (sound_indexes (suc (length x.0.1)) x.0.1 y.0 y.1))
        | inr e ↦ elim (choose_some (eat k.Split (skip a)) _ _ r e.1) [
          | inl c ↦ sound_range (Some n) from (skip a) (g.bound a index) c.0 (eat_eats k.Split (skip a) c.0 c.1) r c.2
          | inr f ↦ subst (λ z. g.PlainAt text z.0 from z.1) (some_same (t.Number (whole_number n), skip a) r f.1) (g.in_index a index)
        ]
      ]

  sound_from_quoted : (s : StrRange) (from a : Lexemes) → Quoted s from a → (r : ParseToken × Lexemes) → d.name_or_name_list text s a ≡ Some r → g.PlainAt text r.0 from r.1
  sound_from_quoted s from a quoted r h =
      elim (choose_some (eat k.Comma a) _ _ r h) [
        | inl c ↦
            let x = then_some (quoted_at (skip c.0)) _ r c.2 in
            let w = then_some (d.with_more_names text (s ∷ x.0.0 ∷ []) (skip x.0.1)) _ r x.2 in
            let y = then_some (d.more_names_at text (suc (length (skip x.0.1))) (skip x.0.1)) _ w.0 w.1 in
            subst (λ z. g.PlainAt text z.0 from z.1) (some_same (t.Keys (s ∷ x.0.0 ∷ y.0.0), y.0.1) r (ap (λ o. o >>= λ ss. Some (t.Keys ss.0, ss.1)) y.2 ∙ w.2))
            (g.in_names a c.0 x.0.1 quoted (eat_eats k.Comma a c.0 c.1) (sound_quoted (skip c.0) x.0 x.1) (sound_names (suc (length (skip x.0.1))) (skip x.0.1) y.0 y.1))
        | inr e ↦ subst (λ z. g.PlainAt text z.0 from z.1) (some_same (t.Key s, skip a) r e.1) (g.in_name a quoted)
      ]

  pub sound_plain : (ts : Lexemes) (r : ParseToken × Lexemes) → d.plain_at text ts ≡ Some r → g.PlainAt text r.0 ts r.1
  unfolding d.plain_at
  sound_plain ts r h =
      elim (choose_some (eat k.Asterisk ts) _ _ r h) [
        | inl a ↦ subst (λ z. g.PlainAt text z.0 ts z.1) (some_same (t.All, skip a.0) r a.2) (g.in_all a.0 (eat_eats k.Asterisk ts a.0 a.1))
        | inr b ↦ elim (choose_some (take_token k.Key ts) _ _ r b.1) [
          | inl a ↦
              let x = then_some (index_of (bytes_at text a.0.0)) _ r a.2 in
              sound_from_index x.0 ts a.0.1 (a.0.0, take_takes k.Key ts a.0 a.1, x.1) r x.2
          | inr c ↦ elim (choose_some (eat k.Split ts) _ _ r c.1) [
            | inl a ↦ sound_range None ts ts g.no_bound a.0 (eat_eats k.Split ts a.0 a.1) r a.2
            | inr e ↦
                let x = then_some (quoted_at ts) _ r e.1 in
                sound_from_quoted x.0.0 ts x.0.1 (sound_quoted ts x.0 x.1) r x.2
          ]
        ]
      ]

  sound_number : (s : StrRange) (from a : Lexemes) → Takes k.Key s from a → (r : Decimal × Lexemes) → d.rest_of_number text (bytes_at text s) a ≡ Some r → g.NumberAt text r.0 from r.1
  sound_number s from a word r h =
      elim (choose_some (eat k.Dot a) _ _ r h) [
        | inl c ↦
            let x = then_some (take_token k.Key c.0) _ r c.2 in
            let y = then_some (decimal_of (bytes_at text s) (bytes_at text x.0.0)) _ r x.2 in
            subst (λ z. g.NumberAt text z.0 from z.1) (some_same (y.0, x.0.1) r y.2) (g.point s a c.0 x.0.0 word (eat_eats k.Dot a c.0 c.1) (take_takes k.Key c.0 x.0 x.1) y.1)
        | inr e ↦
            let y = then_some (decimal_of (bytes_at text s) []) _ r e.1 in
            subst (λ z. g.NumberAt text z.0 from z.1) (some_same (y.0, a) r y.2) (g.whole s word y.1)
      ]

  pub sound_literal : (ts : Lexemes) (r : ParseToken × Lexemes) → d.literal_at text ts ≡ Some r → g.LiteralAt text r.0 ts r.1
  unfolding d.literal_at
  sound_literal ts r h =
      elim (choose_some (take_token k.Key ts) _ _ r h) [
        | inl a ↦
            let word = take_takes k.Key ts a.0 a.1 in
            elim (choose_some (truth_of (bytes_at text a.0.0)) _ _ r a.2) [
              | inl x ↦ subst (λ z. g.LiteralAt text z.0 ts z.1) (some_same (t.Bool x.0, a.0.1) r x.2) (g.truth a.0.0 word x.1)
              | inr e ↦
                  let y = then_some (d.rest_of_number text (bytes_at text a.0.0) a.0.1) _ r e.1 in
                  subst (λ z. g.LiteralAt text z.0 ts z.1) (some_same (t.Number y.0.0, y.0.1) r y.2) (g.number (sound_number a.0.0 ts a.0.1 word y.0 y.1))
            ]
        | inr e ↦
            let y = then_some (quoted_at ts) _ r e.1 in
            subst (λ z. g.LiteralAt text z.0 ts z.1) (some_same (t.Key y.0.0, y.0.1) r y.2) (g.quoted (sound_quoted ts y.0 y.1))
      ]

  -- what `deeper` answers is spelled with one level less
  abbrev pub Deep : ℕ → (Lexemes → Read Condition) → Type 0
  Deep n deeper = (ts : Lexemes) (r : Condition × Lexemes) → deeper ts ≡ Some r → (m : ℕ) × (n ≡ suc m) × g.ConditionAt text m r.0 ts r.1

  module _ (n : ℕ) (deeper : Lexemes → Read Condition) (deep : Deep n deeper) where
    sound_inner : (ts : Lexemes) (r : Inner × Lexemes) → d.inner_at text deeper ts ≡ Some r → g.InnerAt text n r.0 ts r.1
    unfolding d.inner_at
    sound_inner ts r h =
        elim (choose_some (eat k.Question ts) _ _ r h) [
          | inl q ↦
              let o = then_some (eat k.OpenParenthesis q.0) _ r q.2 in
              let c = then_some (deeper o.0) _ r o.2 in
              let found = deep o.0 c.0 c.1 in
              subst (λ z. g.InnerAt text n z.0 ts z.1) (some_same (tree.filter c.0.0, skip c.0.1) r c.2)
              (subst (λ m. g.InnerAt text m (tree.filter c.0.0) ts (skip c.0.1)) (sym found.1)
              (g.in_filter q.0 o.0 c.0.1 (eat_eats k.Question ts q.0 q.1) (eat_eats k.OpenParenthesis q.0 o.0 o.1) found.2))
          | inr e ↦
              let p = then_some (d.plain_at text ts) _ r e.1 in
              subst (λ z. g.InnerAt text n z.0 ts z.1) (some_same (tree.plain p.0.0, p.0.1) r p.2) (g.in_plain (sound_plain ts p.0 p.1))
        ]

    abbrev pub Step : Type 0
    Step = Bool × Bool × Inner

    abbrev pub StepIs : Step × Lexemes → Lexemes → Type 0
    StepIs z from = g.StepAt text n z.0.0 z.0.1 z.0.2 from z.1

    -- what `array_at` takes apart
    array_parts : (leaves : Bool) (ts : Lexemes) (r : Step × Lexemes) → d.array_at text deeper leaves ts ≡ Some r
        → (i : Inner) × (a : Lexemes) × (b : Lexemes) × g.InnerAt text n i ts a × Eats k.CloseArray a b × (let s : Step × Lexemes = ((leaves, true, i), b) in s ≡ r)
    unfolding d.array_at
    array_parts leaves ts r h =
        let i = then_some (d.inner_at text deeper ts) _ r h in
        let e = then_some (eat k.CloseArray i.0.1) _ r i.2 in
        (i.0.0, i.0.1, e.0, sound_inner ts i.0 i.1, eat_eats k.CloseArray i.0.1 e.0 e.1, some_same ((leaves, true, i.0.0), e.0) r e.2)

    word_parts : (leaves : Bool) (ts : Lexemes) (r : Step × Lexemes) → d.word_step text deeper leaves ts ≡ Some r
        → (w : ParseToken) × (a : Lexemes) × g.WordAt text w ts a × (let s : Step × Lexemes = ((leaves, false, tree.plain w), a) in s ≡ r)
    word_parts leaves ts r h = grind (arith, sound_word, then_some)

    pub sound_step : (ts : Lexemes) (r : Step × Lexemes) → d.step_at text deeper ts ≡ Some r → StepIs r ts
    unfolding d.step_at
    sound_step ts r h =
        elim (choose_some (eat k.OpenArray ts) _ _ r h) [
          | inl o ↦
              let x = array_parts false (skip o.0) r o.2 in
              subst (λ z. StepIs z ts) x.5 (g.bracket o.0 x.1 (eat_eats k.OpenArray ts o.0 o.1) x.3 x.4)
          | inr e ↦
              let p = then_some (eat k.Dot ts) _ r e.1 in
              let first = eat_eats k.Dot ts p.0 p.1 in
              elim (choose_some (eat k.Dot p.0) _ _ r p.2) [
                | inl q ↦
                    let second = eat_eats k.Dot p.0 q.0 q.1 in
                    elim (choose_some (eat k.OpenArray q.0) _ _ r q.2) [
                      | inl o ↦
                          let x = array_parts true (skip o.0) r o.2 in
                          subst (λ z. StepIs z ts) x.5 (g.dots_bracket p.0 q.0 o.0 x.1 first second (eat_eats k.OpenArray q.0 o.0 o.1) x.3 x.4)
                      | inr f ↦
                          let x = word_parts true q.0 r f.1 in
                          subst (λ z. StepIs z ts) x.3 (g.dots p.0 q.0 first second x.2)
                    ]
                | inr f ↦ elim (choose_some (eat k.OpenArray p.0) _ _ r f.1) [
                  | inl o ↦
                      let x = array_parts false o.0 r o.2 in
                      subst (λ z. StepIs z ts) x.5 (g.dot_bracket p.0 o.0 x.1 first (eat_eats k.OpenArray p.0 o.0 o.1) x.3 x.4)
                  | inr v ↦
                      let x = word_parts false p.0 r v.1 in
                      subst (λ z. StepIs z ts) x.3 (g.dot p.0 first x.2)
                ]
              ]
        ]

    -- one more step, or none, by a test
    steps_by_test : (fuel : ℕ) (ts : Lexemes) (r : PathSteps × Lexemes) (b : Bool)
        → ((us : Lexemes) (q : PathSteps × Lexemes) → d.steps_from text deeper fuel us ≡ Some q → g.StepsAt text n q.0 us q.1)
        → cond b (d.step_at text deeper ts >>= λ s. d.steps_from text deeper fuel s.1 >>= λ ss. Some (tree.step_then s.0.0 s.0.1 s.0.2 ss.0, ss.1)) (Some (tree.no_steps, ts)) ≡ Some r
        → g.StepsAt text n r.0 ts r.1
    steps_by_test fuel ts r true more e =
        let s = then_some (d.step_at text deeper ts) _ r e in
        let ss = then_some (d.steps_from text deeper fuel s.0.1) _ r s.2 in
        subst (λ z. g.StepsAt text n z.0 ts z.1) (some_same (tree.step_then s.0.0.0 s.0.0.1 s.0.0.2 ss.0.0, ss.0.1) r ss.2)
        (g.one_step s.0.1 (sound_step ts s.0 s.1) (more s.0.1 ss.0 ss.1))
    steps_by_test fuel ts r false more e = subst (λ z. g.StepsAt text n z.0 ts z.1) (some_same (tree.no_steps, ts) r e) g.no_step

    sound_steps : (fuel : ℕ) (ts : Lexemes) (r : PathSteps × Lexemes) → d.steps_from text deeper fuel ts ≡ Some r → g.StepsAt text n r.0 ts r.1
    sound_steps zero ts r h = cc
    sound_steps (suc fuel) ts r h = steps_by_test fuel ts r (d.begins_step text deeper ts) (λ us q e. sound_steps fuel us q e) h

    sound_term : (ts : Lexemes) (r : Term × Lexemes) → d.term_at text deeper ts ≡ Some r → g.TermAt text n r.0 ts r.1
    unfolding d.term_at d.steps_at
    sound_term ts r h =
        elim (choose_some (eat k.At ts) _ _ r h) [
          | inl a ↦
              let ss = then_some (d.steps_at text deeper a.0) _ r a.2 in
              subst (λ z. g.TermAt text n z.0 ts z.1) (some_same (tree.at_path (tree.path false ss.0.0), ss.0.1) r ss.2)
              (g.relative a.0 (eat_eats k.At ts a.0 a.1) (sound_steps (suc (length a.0)) a.0 ss.0 ss.1))
          | inr e ↦ elim (choose_some (eat k.Absolute ts) _ _ r e.1) [
            | inl a ↦
                let ss = then_some (d.steps_at text deeper a.0) _ r a.2 in
                subst (λ z. g.TermAt text n z.0 ts z.1) (some_same (tree.at_path (tree.path true ss.0.0), ss.0.1) r ss.2)
                (g.absolute a.0 (eat_eats k.Absolute ts a.0 a.1) (sound_steps (suc (length a.0)) a.0 ss.0 ss.1))
            | inr f ↦
                let l = then_some (d.literal_at text ts) _ r f.1 in
                subst (λ z. g.TermAt text n z.0 ts z.1) (some_same (tree.literal l.0.0, l.0.1) r l.2) (g.of_literal (sound_literal ts l.0 l.1))
          ]
        ]

    -- a comparison whose left term is read
    sound_compare : (left : Term) (from a : Lexemes) → g.TermAt text n left from a → (o : FilterToken × Lexemes) → by_kind grammar.comparison (skip a) ≡ Some o
        → (r : Condition × Lexemes) → d.rest_of_comparison text deeper left o ≡ Some r → g.PartAt text n r.0 from r.1
    sound_compare left from a left_at o op_is r h =
        let op = sound_by_kind grammar.comparison (skip a) o op_is in
        let right = then_some (d.term_at text deeper (skip o.1)) _ r h in
        subst (λ z. g.PartAt text n z.0 from z.1) (some_same (tree.compare left o.0 right.0.0, right.0.1) r right.2)
        (g.compared op.0 a o.1 left_at op.1 op.2 (sound_term (skip o.1) right.0 right.1))

    sound_part : (ts : Lexemes) (r : Condition × Lexemes) → d.part_at text deeper ts ≡ Some r → g.PartAt text n r.0 ts r.1
    unfolding d.part_at d.steps_at
    sound_part ts r h =
        elim (choose_some (eat k.OpenParenthesis ts) _ _ r h) [
          | inl a ↦
              let found = deep a.0 r a.2 in
              subst (λ m. g.PartAt text m r.0 ts r.1) (sym found.1) (g.parentheses a.0 (eat_eats k.OpenParenthesis ts a.0 a.1) found.2)
          | inr e ↦ elim (choose_some (eat k.At ts) _ _ r e.1) [
            | inl a ↦
                let ss = then_some (d.steps_at text deeper a.0) _ r a.2 in
                let at = eat_eats k.At ts a.0 a.1 in
                let spelled = sound_steps (suc (length a.0)) a.0 ss.0 ss.1 in
                elim (choose_some (by_kind grammar.comparison (skip ss.0.1)) _ _ r ss.2) [
                  | inl o ↦ sound_compare (tree.at_path (tree.path false ss.0.0)) ts ss.0.1 (g.relative a.0 at spelled) o.0 o.1 r o.2
                  | inr f ↦ subst (λ z. g.PartAt text n z.0 ts z.1) (some_same (tree.lone (tree.path false ss.0.0), ss.0.1) r f.1) (g.found a.0 at spelled)
                ]
            | inr f ↦
                let left = then_some (d.term_at text deeper ts) _ r f.1 in
                let o = then_some (by_kind grammar.comparison (skip left.0.1)) _ r left.2 in
                sound_compare left.0.0 ts left.0.1 (sound_term ts left.0 left.1) o.0 o.1 r o.2
          ]
        ]

    sound_condition_by : (ts : Lexemes) (r : Condition × Lexemes) → d.condition_by text deeper ts ≡ Some r → g.ConditionAt text n r.0 ts r.1
    unfolding d.condition_by
    sound_condition_by ts r h =
        let p = then_some (d.part_at text deeper (skip ts)) _ r h in
        let part = sound_part (skip ts) p.0 p.1 in
        elim (choose_some (eat k.CloseParenthesis (skip p.0.1)) _ _ r p.2) [
          | inl e ↦ subst (λ z. g.ConditionAt text n z.0 ts z.1) (some_same (p.0.0, e.0) r e.2) (g.closed p.0.1 part (eat_eats k.CloseParenthesis (skip p.0.1) e.0 e.1))
          | inr f ↦
              let o = then_some (by_kind grammar.connective (skip p.0.1)) _ r f.1 in
              let op = sound_by_kind grammar.connective (skip p.0.1) o.0 o.1 in
              let c = then_some (deeper o.0.1) _ r o.2 in
              let found = deep o.0.1 c.0 c.1 in
              let Q : ℕ → Type 0 = λ m. g.PartAt text m p.0.0 (skip ts) p.0.1 in
              subst (λ z. g.ConditionAt text n z.0 ts z.1) (some_same (tree.join o.0.0 p.0.0 c.0.0, c.0.1) r c.2)
              (subst (λ m. g.ConditionAt text m (tree.join o.0.0 p.0.0 c.0.0) ts c.0.1) (sym found.1)
              (g.joined op.0 p.0.1 o.0.1 (subst Q found.1 part) op.1 op.2 found.2))
        ]

  pub sound_condition : (n : ℕ) → Deep n (d.condition_at text n)
  sound_condition zero ts r h = cc
  sound_condition (suc n) ts r h = (n, refl, sound_condition_by n (d.condition_at text n) (sound_condition n) ts r h)

  pub sound_end : (ss : PathSteps) (ts : Lexemes) (p : Path) → d.if_end text ss ts ≡ Some p → (ts ≡ []) × (p ≡ tree.path true ss)
  sound_end ss ts p h = grind arith

  pub sound_path : (ts : Lexemes) (p : Path) → d.path_at text ts ≡ Some p → g.PathAt text p ts
  unfolding d.path_at d.steps_at
  sound_path ts p h =
      let r = then_some (eat k.Absolute ts) _ p h in
      let ss = then_some (d.steps_at text (d.condition_at text grammar.levels) r.0) _ p r.2 in
      let end = sound_end ss.0.0 (skip ss.0.1) p ss.2 in
      record {
        steps = ss.0.0;
        after_root = r.0;
        end = ss.0.1;
        is = end.1;
        root = eat_eats k.Absolute ts r.0 r.1;
        spelled = sound_steps grammar.levels (d.condition_at text grammar.levels) (sound_condition grammar.levels) (suc (length r.0)) r.0 ss.0 ss.1;
        only_blanks = end.0;
      }
