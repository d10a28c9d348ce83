-- The productions of the grammar spell what the forms spell that the parser meets.
use Rattle.std.proofs.Common.{◌≡◌, ℕ, Bool, true, false, List, [], ◌∷◌, Option, Some, None, ℤ, refl, sym, subst, ap, cond, arith}
use Rattle.jsonpath_paths.specs.declared.text.str_reader.StrRange.{StrRange}
use Rattle.jsonpath_paths.specs.declared.decimal.Decimal.{Decimal}
use Rattle.jsonpath_paths.specs.declared.token.tokens.FilterToken.{FilterToken}
use Rattle.jsonpath_paths.specs.declared.token.tokens.Kind.{Kind}
use Rattle.jsonpath_paths.specs.declared.token.tokens.Kind.TheVariants as k
use Rattle.jsonpath_paths.specs.declared.token.tokens.ParseToken.{ParseToken}
use Rattle.jsonpath_paths.specs.declared.token.tokens.Lexeme.{Lexeme}
use Rattle.jsonpath_paths.specs.Grammar as g
use Rattle.jsonpath_paths.specs.Grammar.{Lexemes, Takes, comparison, connective}
use Rattle.jsonpath_paths.specs.token.Kinds.{same_kind}
use Rattle.jsonpath_paths.specs.plan.ParsedParts.{skip, path_at}
use Rattle.jsonpath_paths.specs.tree.Tree.{Path, PathSteps, Inner, Condition, Term}
use Rattle.jsonpath_paths.proofs.parser.FormLemmas as f
use Rattle.jsonpath_paths.proofs.parser.FormLemmas.{Eats, Quoted}
use Rattle.jsonpath_paths.proofs.parser.SoundLemmas as sound
use Rattle.jsonpath_paths.proofs.parser.SameKindLemmas.{same_kind_true}
use Rattle.jsonpath_paths.proofs.parser.CompleteLemmas as complete

-- ---- blanks

-- the tokens begin with no blank
abbrev Full : Lexemes → Type 0
Full ts = skip ts ≡ ts

takes_full : {kind : Kind} {s : StrRange} {from to : Lexemes} → Takes kind s from to → same_kind kind k.Whitespace ≡ false → Full from
unfolding skip
takes_full {kind = kind} {s = s} {to = to} h e = subst Full (sym h) (ap (λ b. let p : Lexeme = record { kind = kind; span = s } in cond b to (p ∷ to)) e)

connects_full : (kind : Kind) (o : FilterToken) → connective kind ≡ Some o → same_kind kind k.Whitespace ≡ false
connects_full kind o h = grind arith

compares_full : (kind : Kind) (o : FilterToken) → comparison kind ≡ Some o → same_kind kind k.Whitespace ≡ false
compares_full kind o h = grind arith

quoted_full : {s : StrRange} {from to : Lexemes} → Quoted s from to → Full from
quoted_full {s = s} {from = from} {to = to} h = grind (arith, takes_full)

module _ (text : List ℕ) where
  literal_full : {token : ParseToken} {from to : Lexemes} → f.LiteralAt text token from to → Full from
  literal_full h = grind (arith, takes_full)

  plain_full : {token : ParseToken} {from to : Lexemes} → f.PlainAt text token from to → Full from
  plain_full h = grind (arith, takes_full)

  inner_full : {n : ℕ} {i : Inner} {from to : Lexemes} → f.InnerAt text n i from to → Full from
  inner_full h = grind (arith, plain_full, takes_full)

  term_full : {n : ℕ} {side : Term} {from to : Lexemes} → f.TermAt text n side from to → Full from
  term_full h = grind (arith, literal_full, takes_full)

  part_full : {n : ℕ} {c : Condition} {from to : Lexemes} → f.PartAt text n c from to → Full from
  part_full h = grind (arith, takes_full, term_full)

  -- ---- from productions to forms

  abbrev Spelled : g.Part → Lexemes → Lexemes → Type 0
  Spelled = g.SpellsPart text

  takes : {kind : Kind} {s : StrRange} {from to : Lexemes} → Spelled (g.token kind s) from to → Takes kind s from to
  takes h = grind arith

  eats : {kind : Kind} {from to : Lexemes} → Spelled (g.mark kind) from to → Eats kind from to
  eats (g.by (g.a_mark s) (g.next h g.end)) = (s, takes h)

  skipped : {from to : Lexemes} → Spelled g.blanks from to → Full to → skip from ≡ to
  unfolding skip
  skipped (g.by g.no_blanks g.end) e = e
  skipped (g.by g.some_blanks (g.next h g.end)) e = ap skip (eats h).1

  -- a form behind blanks
  module _ (Form : Lexemes → Lexemes → Type 0) where
    behind : {from mid to : Lexemes} → Spelled g.blanks from mid → Full mid → Form mid to → Form (skip from) to
    behind {to = to} b full h = subst (λ x. Form x to) (sym (skipped b full)) h

    ended : {from mid to : Lexemes} → Form from (skip mid) → Spelled g.blanks mid to → Full to → Form from to
    ended {from = from} h b full = subst (λ x. Form from x) (skipped b full) h

  eats_behind : {kind : Kind} {from mid to : Lexemes} → Spelled g.blanks from mid → Eats kind mid to → same_kind kind k.Whitespace ≡ false → Eats kind (skip from) to
  eats_behind {kind = kind} b h e = behind (Eats kind) b (takes_full h.1 e) h

  index_form : {n : ℤ} {from to : Lexemes} → Spelled (g.index n) from to → f.IndexAt text n from to
  index_form (g.by (g.an_index s e) (g.next h g.end)) = (s, takes h, e)

  index_behind : {n : ℤ} {from mid to : Lexemes} → Spelled g.blanks from mid → Spelled (g.index n) mid to → f.IndexAt text n (skip from) to
  index_behind {n = n} b i = let h = index_form i in behind (f.IndexAt text n) b (takes_full h.1 refl) h

  range_step_form : {n : ℕ} {from to : Lexemes} → Spelled (g.range_step n) from to → f.RangeStepAt text n from to
  range_step_form (g.by (g.a_range_step s e) (g.next h g.end)) = (s, takes h, e)

  range_step_behind : {n : ℕ} {from mid to : Lexemes} → Spelled g.blanks from mid → Spelled (g.range_step n) mid to → f.RangeStepAt text n (skip from) to
  range_step_behind {n = n} b i = let h = range_step_form i in behind (f.RangeStepAt text n) b (takes_full h.1 refl) h

  quoted_form : {s : StrRange} {from to : Lexemes} → Spelled (g.quoted s) from to → Quoted s from to
  quoted_form (g.by g.double_quoted (g.next h g.end)) = (true, takes h)
  quoted_form (g.by g.single_quoted (g.next h g.end)) = (false, takes h)

  quoted_behind : {s : StrRange} {from mid to : Lexemes} → Spelled g.blanks from mid → Spelled (g.quoted s) mid to → Quoted s (skip from) to
  quoted_behind {s = s} b q = let h = quoted_form q in behind (Quoted s) b (quoted_full h) h

  number_form : {d : Decimal} {from to : Lexemes} → Spelled (g.number d) from to → f.NumberAt text d from to
  number_form (g.by (g.whole_part s e) (g.next h g.end)) = f.whole s (takes h) e
  number_form (g.by (g.with_point s r e) (g.next h (g.next i (g.next j g.end)))) = f.point s _ _ r (takes h) (eats i) (takes j) e

  literal_form : {token : ParseToken} {from to : Lexemes} → Spelled (g.literal token) from to → f.LiteralAt text token from to
  literal_form (g.by g.a_text (g.next q g.end)) = f.quoted (quoted_form q)
  literal_form (g.by g.a_number (g.next d g.end)) = f.number (number_form d)
  literal_form (g.by (g.a_truth s e) (g.next h g.end)) = f.truth s (takes h) e

  word_form : {token : ParseToken} {from to : Lexemes} → Spelled (g.word token) from to → f.WordAt text token from to
  word_form (g.by g.dot_name (g.next h g.end)) = f.dot_word (takes h)
  word_form (g.by g.dot_all (g.next h g.end)) = f.dot_all (eats h)

  from_form : {o : Option ℤ} {from mid to : Lexemes} → Spelled (g.range_from o) from mid → Eats k.Split mid to → f.BoundAt text o from mid
  from_form (g.by g.no_from g.end) h = f.no_bound
  from_form (g.by (g.a_from {n = n}) (g.next i (g.next b g.end))) h = ended (f.BoundAt text (Some n)) (f.bound _ (index_form i)) b (takes_full h.1 refl)

  to_form : {o : Option ℤ} {from to : Lexemes} → Spelled (g.range_to o) from to → f.BoundAt text o (skip from) (skip to)
  to_form (g.by g.no_to g.end) = f.no_bound
  to_form (g.by g.a_to (g.next b (g.next i g.end))) = f.bound _ (index_behind b i)

  by_form : {o : Option ℕ} {from mid to : Lexemes} → Spelled (g.range_by o) from mid → Spelled g.blanks mid to → Full to → f.StepPartAt text o (skip from) to
  by_form {from = from} (g.by g.no_by g.end) b full = ended (λ x y. f.StepPartAt text None (skip from) y) {from = from} f.no_step_part b full
  by_form {from = from} (g.by g.bare_colon (g.next c (g.next h g.end))) b full =
      ended (λ x y. f.StepPartAt text None (skip from) y) {from = from} (f.bare_colon _ (eats_behind c (eats h) refl)) b full
  by_form {from = from} (g.by (g.a_by {n = n}) (g.next c (g.next h (g.next d (g.next i g.end))))) b full =
      ended (λ x y. f.StepPartAt text (Some n) (skip from) y) {from = from} (f.step_part _ _ (eats_behind c (eats h) refl) (range_step_behind d i)) b full

  indexes_form : {ns : List ℤ} {from mid to : Lexemes} → Spelled (g.more_indexes ns) from mid → Spelled g.blanks mid to → Full to → f.IndexesAt text ns from to
  indexes_form (g.by g.no_index g.end) b full = ended (f.IndexesAt text []) f.no_index b full
  indexes_form (g.by g.one_index (g.next c (g.next d (g.next i (g.next more g.end))))) b full =
      f.one_index _ _ (eats c) (index_behind d i) (indexes_form more b full)

  names_form : {ss : List StrRange} {from mid to : Lexemes} → Spelled (g.more_names ss) from mid → Spelled g.blanks mid to → Full to → f.NamesAt text ss (skip from) to
  names_form {from = from} (g.by g.no_name g.end) b full = ended (λ x y. f.NamesAt text [] (skip from) y) {from = from} f.no_name b full
  names_form (g.by g.one_name (g.next c (g.next h (g.next d (g.next q (g.next more g.end)))))) b full =
      f.one_name _ _ (eats_behind c (eats h) refl) (quoted_behind d q) (names_form more b full)

  plain_form : {token : ParseToken} {from mid to : Lexemes} → Spelled (g.plain token) from mid → Spelled g.blanks mid to → Full to → f.PlainAt text token from to
  plain_form {token = token} (g.by g.in_all (g.next h g.end)) b full = ended (f.PlainAt text token) (f.in_all _ (eats h)) b full
  plain_form {token = token} (g.by g.in_index (g.next i g.end)) b full = ended (f.PlainAt text token) (f.in_index _ (index_form i)) b full
  plain_form (g.by g.in_union (g.next i (g.next c (g.next h (g.next d (g.next j (g.next more g.end))))))) b full =
      f.in_union _ _ _ (index_form i) (eats_behind c (eats h) refl) (index_behind d j) (indexes_form more b full)
  plain_form (g.by g.in_range (g.next low (g.next h (g.next high (g.next pace g.end))))) b full =
      f.in_range _ _ _ (from_form low (eats h)) (eats h) (to_form high) (by_form pace b full)
  plain_form {token = token} (g.by g.in_name (g.next q g.end)) b full = ended (f.PlainAt text token) (f.in_name _ (quoted_form q)) b full
  plain_form (g.by g.in_names (g.next q (g.next h (g.next d (g.next r (g.next more g.end)))))) b full =
      f.in_names _ _ _ (quoted_form q) (eats h) (quoted_behind d r) (names_form more b full)

  connective_form : {o : FilterToken} {from to : Lexemes} → Spelled (g.connective_sign o) from to
      → (kind : Kind) × (connective kind ≡ Some o) × Eats kind from to × (same_kind kind k.Whitespace ≡ false)
  connective_form {o = o} (g.by (g.a_connective kind e) (g.next h g.end)) = (kind, e, eats h, connects_full kind o e)

  comparison_form : {o : FilterToken} {from to : Lexemes} → Spelled (g.comparison_sign o) from to
      → (kind : Kind) × (comparison kind ≡ Some o) × Eats kind from to × (same_kind kind k.Whitespace ≡ false)
  comparison_form {o = o} (g.by (g.a_comparison kind e) (g.next h g.end)) = (kind, e, eats h, compares_full kind o e)

  inner_behind : {n : ℕ} {i : Inner} {from mid to : Lexemes} → Spelled g.blanks from mid → f.InnerAt text n i mid to → f.InnerAt text n i (skip from) to
  inner_behind {n = n} {i = i} b h = behind (f.InnerAt text n i) b (inner_full h) h

  part_behind : {n : ℕ} {c : Condition} {from mid to : Lexemes} → Spelled g.blanks from mid → f.PartAt text n c mid to → f.PartAt text n c (skip from) to
  part_behind {n = n} {c = c} b h = behind (f.PartAt text n c) b (part_full h) h

  term_behind : {n : ℕ} {side : Term} {from mid to : Lexemes} → Spelled g.blanks from mid → f.TermAt text n side mid to → f.TermAt text n side (skip from) to
  term_behind {n = n} {side = side} b h = behind (f.TermAt text n side) b (term_full h) h

  mutual
    steps_form : {n : ℕ} {ss : PathSteps} {from to : Lexemes} → Spelled (g.steps n ss) from to → f.StepsAt text n ss from to
    steps_form (g.by g.no_steps g.end) = f.no_step
    steps_form (g.by g.step_then (g.next s (g.next ss g.end))) = f.one_step _ (step_form s) (steps_form ss)

    step_form : {n : ℕ} {leaves bracket : Bool} {i : Inner} {from to : Lexemes} → Spelled (g.step n leaves bracket i) from to → f.StepAt text n leaves bracket i from to
    step_form (g.by g.dot (g.next h (g.next w g.end))) = f.dot _ (eats h) (word_form w)
    step_form (g.by g.dots (g.next h (g.next j (g.next w g.end)))) = f.dots _ _ (eats h) (eats j) (word_form w)
    step_form (g.by g.bracket (g.next o (g.next b (g.next i (g.next c (g.next e g.end)))))) =
        f.bracket _ _ (eats o) (inner_behind b (inner_form i c (takes_full (eats e).1 refl))) (eats e)
    step_form (g.by g.dot_bracket (g.next h (g.next o (g.next i (g.next c (g.next e g.end)))))) =
        f.dot_bracket _ _ _ (eats h) (eats o) (inner_form i c (takes_full (eats e).1 refl)) (eats e)
    step_form (g.by g.dots_bracket (g.next h (g.next j (g.next o (g.next b (g.next i (g.next c (g.next e g.end)))))))) =
        f.dots_bracket _ _ _ _ (eats h) (eats j) (eats o) (inner_behind b (inner_form i c (takes_full (eats e).1 refl))) (eats e)

    inner_form : {n : ℕ} {i : Inner} {from mid to : Lexemes} → Spelled (g.inner n i) from mid → Spelled g.blanks mid to → Full to → f.InnerAt text n i from to
    inner_form (g.by g.in_plain (g.next p g.end)) b full = f.in_plain (plain_form p b full)
    inner_form {n = n} {i = i} (g.by g.in_filter (g.next q (g.next o (g.next before (g.next c (g.next after (g.next e g.end))))))) b full =
        ended (f.InnerAt text n i) (f.in_filter _ _ _ (eats q) (eats o) (condition_form c before after (eats e))) b full

    -- with the blanks on both sides and the parenthesis that closes it
    condition_form : {n : ℕ} {c : Condition} {mid last : Lexemes} → Spelled (g.condition n c) mid last → {from end to : Lexemes} → Spelled g.blanks from mid
        → Spelled g.blanks last end → Eats k.CloseParenthesis end to → f.ConditionAt text n c from to
    condition_form (g.by g.alone (g.next p g.end)) before after close = f.closed _ (part_behind before (single_form p)) (eats_behind after close refl)
    condition_form (g.by g.joined (g.next p (g.next b (g.next o (g.next d (g.next c g.end)))))) before after close =
        let sign = connective_form o in
        f.joined sign.0 _ _ (part_behind before (single_form p)) sign.1 (eats_behind b sign.2 sign.3) (condition_form c d after close)

    single_form : {n : ℕ} {c : Condition} {from to : Lexemes} → Spelled (g.single n c) from to → f.PartAt text n c from to
    single_form (g.by g.group (g.next o (g.next before (g.next c (g.next after (g.next e g.end)))))) = f.parentheses _ (eats o) (condition_form c before after (eats e))
    single_form (g.by g.compared (g.next l (g.next b (g.next o (g.next d (g.next r g.end)))))) =
        let sign = comparison_form o in
        f.compared sign.0 _ _ (term_form l) sign.1 (eats_behind b sign.2 sign.3) (term_behind d (term_form r))
    single_form (g.by g.found (g.next h (g.next ss g.end))) = f.found _ (eats h) (steps_form ss)

    term_form : {n : ℕ} {side : Term} {from to : Lexemes} → Spelled (g.term n side) from to → f.TermAt text n side from to
    term_form (g.by g.relative (g.next h (g.next ss g.end))) = f.relative _ (eats h) (steps_form ss)
    term_form (g.by g.absolute (g.next h (g.next ss g.end))) = f.absolute _ (eats h) (steps_form ss)
    term_form (g.by g.of_literal (g.next l g.end)) = f.of_literal (literal_form l)

  nothing_full : Full []
  unfolding skip
  nothing_full = refl

  pub path_form : {p : Path} {ts : Lexemes} → g.SpellsPath text p ts → f.PathAt text p ts
  path_form (g.by (g.from_root {ss = ss}) (g.next h (g.next steps (g.next b g.end)))) =
      record { steps = ss; after_root = _; end = _; is = refl; root = eats h; spelled = steps_form steps; only_blanks = skipped b nothing_full }

  -- ---- from forms to productions

  a_token : {kind : Kind} {s : StrRange} {from to : Lexemes} → Takes kind s from to → Spelled (g.token kind s) from to
  a_token h = g.one_token h

  a_mark : {kind : Kind} {from to : Lexemes} → Eats kind from to → Spelled (g.mark kind) from to
  a_mark h = g.by (g.a_mark h.0) (g.next (a_token h.1) g.end)

  some_blanks : (ts : Lexemes) → Spelled g.blanks ts (skip ts)
  unfolding skip
  some_blanks [] = g.by g.no_blanks g.end
  some_blanks (p ∷ ps) = by_test (same_kind p.kind k.Whitespace) refl
    where
      by_test : (b : Bool) → same_kind p.kind k.Whitespace ≡ b → Spelled g.blanks (p ∷ ps) (cond b ps (p ∷ ps))
      by_test true e =
          let takes : Takes k.Whitespace p.span (p ∷ ps) ps = ap (λ x. let y : Lexeme = record { kind = x; span = p.span } in y ∷ ps) (same_kind_true p.kind k.Whitespace e) in
          g.by g.some_blanks (g.next (a_mark (p.span, takes)) g.end)
      by_test false e = g.by g.no_blanks g.end

  an_index : {n : ℤ} {from to : Lexemes} → f.IndexAt text n from to → Spelled (g.index n) from to
  an_index i = g.by (g.an_index i.0 i.2) (g.next (a_token i.1) g.end)

  a_range_step : {n : ℕ} {from to : Lexemes} → f.RangeStepAt text n from to → Spelled (g.range_step n) from to
  a_range_step i = g.by (g.a_range_step i.0 i.2) (g.next (a_token i.1) g.end)

  a_quoted : {s : StrRange} {from to : Lexemes} → Quoted s from to → Spelled (g.quoted s) from to
  a_quoted {s = s} {from = from} {to = to} h = by_double h.0 h.1
    where
      by_double : (double : Bool) → Takes (f.quote_kind double) s from to → Spelled (g.quoted s) from to
      by_double true e = g.by g.double_quoted (g.next (a_token e) g.end)
      by_double false e = g.by g.single_quoted (g.next (a_token e) g.end)

  a_number : {d : Decimal} {from to : Lexemes} → f.NumberAt text d from to → Spelled (g.number d) from to
  a_number (f.whole s h e) = g.by (g.whole_part s e) (g.next (a_token h) g.end)
  a_number (f.point s a b r h i j e) = g.by (g.with_point s r e) (g.next (a_token h) (g.next (a_mark i) (g.next (a_token j) g.end)))

  a_literal : {token : ParseToken} {from to : Lexemes} → f.LiteralAt text token from to → Spelled (g.literal token) from to
  a_literal (f.quoted q) = g.by g.a_text (g.next (a_quoted q) g.end)
  a_literal (f.number d) = g.by g.a_number (g.next (a_number d) g.end)
  a_literal (f.truth s h e) = g.by (g.a_truth s e) (g.next (a_token h) g.end)

  a_word : {token : ParseToken} {from to : Lexemes} → f.WordAt text token from to → Spelled (g.word token) from to
  a_word (f.dot_word h) = g.by g.dot_name (g.next (a_token h) g.end)
  a_word (f.dot_all h) = g.by g.dot_all (g.next (a_mark h) g.end)

  a_from : {o : Option ℤ} {from to : Lexemes} → f.BoundAt text o from to → Spelled (g.range_from o) from to
  a_from f.no_bound = g.by g.no_from g.end
  a_from (f.bound mid i) = g.by g.a_from (g.next (an_index i) (g.next (some_blanks mid) g.end))

  a_to : {o : Option ℤ} {from to : Lexemes} → f.BoundAt text o from to → (before : Lexemes) → from ≡ skip before
      → (mid : Lexemes) × Spelled (g.range_to o) before mid × (to ≡ skip mid)
  a_to f.no_bound before e = (before, g.by g.no_to g.end, e)
  a_to (f.bound {n = n} mid i) before e =
      (mid, g.by g.a_to (g.next (some_blanks before) (g.next (an_index (subst (λ x. f.IndexAt text n x mid) e i)) g.end)), refl)

  a_colon : {from to : Lexemes} → Eats k.Split from to → (before : Lexemes) → from ≡ skip before → Spelled (g.mark k.Split) (skip before) to
  a_colon {to = to} h before e = a_mark (subst (λ x. Eats k.Split x to) e h)

  a_by : {o : Option ℕ} {from to : Lexemes} → f.StepPartAt text o from to → (before : Lexemes) → from ≡ skip before
      → (mid : Lexemes) × Spelled (g.range_by o) before mid × (to ≡ skip mid)
  a_by f.no_step_part before e = (before, g.by g.no_by g.end, e)
  a_by (f.bare_colon mid h) before e = (mid, g.by g.bare_colon (g.next (some_blanks before) (g.next (a_colon h before e) g.end)), refl)
  a_by (f.step_part mid last h i) before e =
      (last, g.by g.a_by (g.next (some_blanks before) (g.next (a_colon h before e) (g.next (some_blanks mid) (g.next (a_range_step i) g.end)))), refl)

  -- what is spelled up to some blanks
  abbrev UpTo : g.Part → Lexemes → Lexemes → Type 0
  UpTo part from to = (mid : Lexemes) × Spelled part from mid × (to ≡ skip mid)

  more_indexes : {ns : List ℤ} {from to : Lexemes} → f.IndexesAt text ns from to → UpTo (g.more_indexes ns) from to
  more_indexes (f.no_index {ts = ts}) = (ts, g.by g.no_index g.end, refl)
  more_indexes (f.one_index a b h i more) =
      let rest = more_indexes more in
      (rest.0, g.by g.one_index (g.next (a_mark h) (g.next (some_blanks a) (g.next (an_index i) (g.next rest.1 g.end)))), rest.2)

  more_names : {ss : List StrRange} {from to : Lexemes} → f.NamesAt text ss from to → (before : Lexemes) → from ≡ skip before → UpTo (g.more_names ss) before to
  more_names f.no_name before e = (before, g.by g.no_name g.end, e)
  more_names (f.one_name a b h q more) before e =
      let rest = more_names more b refl in
      let comma : Spelled (g.mark k.Comma) (skip before) a = a_mark (subst (λ x. Eats k.Comma x a) e h) in
      (rest.0, g.by g.one_name (g.next (some_blanks before) (g.next comma (g.next (some_blanks a) (g.next (a_quoted q) (g.next rest.1 g.end))))), rest.2)

  a_plain : {token : ParseToken} {from to : Lexemes} → f.PlainAt text token from to → UpTo (g.plain token) from to
  a_plain (f.in_all a h) = (a, g.by g.in_all (g.next (a_mark h) g.end), refl)
  a_plain (f.in_index a i) = (a, g.by g.in_index (g.next (an_index i) g.end), refl)
  a_plain (f.in_union a b c i h j more) =
      let rest = more_indexes more in
      (rest.0, g.by g.in_union (g.next (an_index i) (g.next (some_blanks a) (g.next (a_mark h) (g.next (some_blanks b) (g.next (an_index j) (g.next rest.1 g.end)))))), rest.2)
  a_plain (f.in_range a b c low h high pace) =
      let last = a_to high b refl in
      let rest = a_by pace last.0 last.2 in
      (rest.0, g.by g.in_range (g.next (a_from low) (g.next (a_mark h) (g.next last.1 (g.next rest.1 g.end)))), rest.2)
  a_plain (f.in_name a q) = (a, g.by g.in_name (g.next (a_quoted q) g.end), refl)
  a_plain (f.in_names a b c q h r more) =
      let rest = more_names more c refl in
      (rest.0, g.by g.in_names (g.next (a_quoted q) (g.next (a_mark h) (g.next (some_blanks b) (g.next (a_quoted r) (g.next rest.1 g.end))))), rest.2)

  -- the blanks up to these tokens
  up_to : {to : Lexemes} (mid : Lexemes) → to ≡ skip mid → Spelled g.blanks mid to
  up_to mid e = subst (λ x. Spelled g.blanks mid x) (sym e) (some_blanks mid)

  mutual
    all_steps : {n : ℕ} {ss : PathSteps} {from to : Lexemes} → f.StepsAt text n ss from to → Spelled (g.steps n ss) from to
    all_steps f.no_step = g.by g.no_steps g.end
    all_steps (f.one_step mid s ss) = g.by g.step_then (g.next (a_step s) (g.next (all_steps ss) g.end))

    a_step : {n : ℕ} {leaves bracket : Bool} {i : Inner} {from to : Lexemes} → f.StepAt text n leaves bracket i from to → Spelled (g.step n leaves bracket i) from to
    a_step (f.dot a h w) = g.by g.dot (g.next (a_mark h) (g.next (a_word w) g.end))
    a_step (f.dots a b h j w) = g.by g.dots (g.next (a_mark h) (g.next (a_mark j) (g.next (a_word w) g.end)))
    a_step (f.bracket a b o i e) =
        let inside = an_inner i in
        g.by g.bracket (g.next (a_mark o) (g.next (some_blanks a) (g.next inside.1 (g.next (up_to inside.0 inside.2) (g.next (a_mark e) g.end)))))
    a_step (f.dot_bracket a b c h o i e) =
        let inside = an_inner i in
        g.by g.dot_bracket (g.next (a_mark h) (g.next (a_mark o) (g.next inside.1 (g.next (up_to inside.0 inside.2) (g.next (a_mark e) g.end)))))
    a_step (f.dots_bracket a b c d h j o i e) =
        let inside = an_inner i in
        g.by g.dots_bracket (g.next (a_mark h) (g.next (a_mark j) (g.next (a_mark o) (g.next (some_blanks c) (g.next inside.1 (g.next (up_to inside.0 inside.2) (g.next (a_mark e) g.end)))))))

    an_inner : {n : ℕ} {i : Inner} {from to : Lexemes} → f.InnerAt text n i from to → UpTo (g.inner n i) from to
    an_inner (f.in_plain p) = let x = a_plain p in (x.0, g.by g.in_plain (g.next x.1 g.end), x.2)
    an_inner (f.in_filter a b d q o c) =
        let x = a_condition c in
        (d, g.by g.in_filter (g.next (a_mark q) (g.next (a_mark o) (g.next (some_blanks b) (g.next x.1 (g.next (some_blanks x.0) (g.next (a_mark x.2) g.end)))))), refl)

    a_condition : {n : ℕ} {c : Condition} {from to : Lexemes} → f.ConditionAt text n c from to
        → (mid : Lexemes) × Spelled (g.condition n c) (skip from) mid × Eats k.CloseParenthesis (skip mid) to
    a_condition (f.closed a p e) = (a, g.by g.alone (g.next (a_single p) g.end), e)
    a_condition (f.joined kind a b p o h c) =
        let x = a_condition c in
        let sign : Spelled (g.connective_sign _) (skip a) b = g.by (g.a_connective kind o) (g.next (a_mark h) g.end) in
        (x.0, g.by g.joined (g.next (a_single p) (g.next (some_blanks a) (g.next sign (g.next (some_blanks b) (g.next x.1 g.end))))), x.2)

    a_single : {n : ℕ} {c : Condition} {from to : Lexemes} → f.PartAt text n c from to → Spelled (g.single n c) from to
    a_single (f.parentheses a o c) =
        let x = a_condition c in
        g.by g.group (g.next (a_mark o) (g.next (some_blanks a) (g.next x.1 (g.next (some_blanks x.0) (g.next (a_mark x.2) g.end)))))
    a_single (f.compared kind a b l o h r) =
        let sign : Spelled (g.comparison_sign _) (skip a) b = g.by (g.a_comparison kind o) (g.next (a_mark h) g.end) in
        g.by g.compared (g.next (a_term l) (g.next (some_blanks a) (g.next sign (g.next (some_blanks b) (g.next (a_term r) g.end)))))
    a_single (f.found a h ss) = g.by g.found (g.next (a_mark h) (g.next (all_steps ss) g.end))

    a_term : {n : ℕ} {side : Term} {from to : Lexemes} → f.TermAt text n side from to → Spelled (g.term n side) from to
    a_term (f.relative a h ss) = g.by g.relative (g.next (a_mark h) (g.next (all_steps ss) g.end))
    a_term (f.absolute a h ss) = g.by g.absolute (g.next (a_mark h) (g.next (all_steps ss) g.end))
    a_term (f.of_literal l) = g.by g.of_literal (g.next (a_literal l) g.end)

  pub path_spelled : (p : Path) (ts : Lexemes) → f.PathAt text p ts → g.SpellsPath text p ts
  path_spelled p ts h =
      subst (λ x. g.SpellsPath text x ts) (sym h.is)
      (g.by g.from_root (g.next (a_mark h.root) (g.next (all_steps h.spelled) (g.next (up_to h.end (sym h.only_blanks)) g.end))))

  -- ---- the whole

  pub sound_path : (ts : Lexemes) (p : Path) → path_at text ts ≡ Some p → g.SpellsPath text p ts
  sound_path ts p h = path_spelled p ts (sound.sound_path text ts p h)

  pub complete_path : (ts : Lexemes) (p : Path) → g.SpellsPath text p ts → path_at text ts ≡ Some p
  complete_path ts p h = complete.complete_path text ts p (path_form h)

  -- tokens spell one path at most
  pub one_tree_per_text : (ts : Lexemes) (p q : Path) → g.SpellsPath text p ts → g.SpellsPath text q ts → p ≡ q
  one_tree_per_text ts p q a b = complete.one_tree_per_text text ts p q (path_form a) (path_form b)
