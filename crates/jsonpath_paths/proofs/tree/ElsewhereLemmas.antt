-- What tokens spell, tokens that are the same elsewhere spell, too.
use Rattle.std.proofs.Common.{◌≡◌, ◌≤◌, ◌<◌, ℕ, suc, Bool, true, false, List, [], ◌∷◌, length, Option, ℤ, cond, sym, subst, ap, ap₂, ◌∙◌, arith}
use Rattle.jsonpath_paths.specs.token.Kinds.{same_kind}
use Rattle.jsonpath_paths.specs.plan.ParsedParts.{skip}
use Rattle.jsonpath_paths.specs.declared.text.str_reader.StrRange.{StrRange}
use Rattle.jsonpath_paths.specs.declared.decimal.Decimal.{Decimal}
use Rattle.jsonpath_paths.specs.declared.token.tokens.Kind.{Kind}
use Rattle.jsonpath_paths.specs.declared.token.tokens.Kind.TheVariants as k
use Rattle.jsonpath_paths.specs.declared.token.tokens.ParseToken.{ParseToken}
use Rattle.jsonpath_paths.specs.declared.token.tokens.ParseToken.TheVariants as t
use Rattle.jsonpath_paths.specs.declared.token.tokens.Lexeme.{Lexeme}
use Rattle.jsonpath_paths.specs.tree.Alike.{IsSameAt, AreSameAt, AlikeToken, same_all, same_key, same_keys, same_range, same_union, same_number, same_truth, alike_path, AlikeSteps, alike_end, alike_step, AlikeInner, alike_plain, alike_filter, AlikeCondition, alike_lone, alike_compare, alike_join, AlikeTerm, alike_at_path, alike_literal}
use Rattle.jsonpath_paths.proofs.parser.FormLemmas as g
use Rattle.jsonpath_paths.specs.Grammar.{Lexemes, Takes, whole_number}
use Rattle.jsonpath_paths.proofs.parser.FormLemmas.{Eats, Quoted, quote_kind}
use Rattle.jsonpath_paths.specs.Numbers.{decimal_of}
use Rattle.jsonpath_paths.specs.Literals.{truth_of}
use Rattle.jsonpath_paths.specs.tree.Tree.{path, PathSteps, no_steps, step_then, Inner, plain, filter, Condition, lone, compare, join, Term, at_path, literal}
use Rattle.jsonpath_paths.proofs.parser.ShorterLemmas.{skip_shorter, takes_shorter, eats_shorter, quoted_shorter, bound_shorter, step_part_shorter, indexes_shorter, names_shorter, word_shorter, steps_shorter, inner_shorter, condition_shorter, part_shorter, term_shorter}

module _ (here there : List ℕ) (rest other : Lexemes) where
  -- token by token the same, up to the two rests; the last one closes a parenthesis
  pub data Along : Lexemes → Lexemes → Type 0 where
    at_rest : Along rest other
    one_more : {p q : Lexeme} {ps qs : Lexemes} → q.kind ≡ p.kind → IsSameAt here there p.span q.span → (length ps ≡ length rest → p.kind ≡ k.CloseParenthesis) → Along ps qs
        → Along (p ∷ ps) (q ∷ qs)

  abbrev SameAt : StrRange → StrRange → Type 0
  SameAt = IsSameAt here there

  takes_along : (kind : Kind) (s : StrRange) (from to from' : Lexemes) → Takes kind s from to → length rest ≤ length to → Along from from'
      → (r : StrRange) × (to' : Lexemes) × Takes kind r from' to' × SameAt s r × Along to to'
  takes_along kind s from to from' h more at_rest = absurd (omega (arith, more, ap length h))
  takes_along kind s from to from' h more (one_more {p = p} {q = q} {ps = ps} {qs = qs} e same last along) = grind arith

  eats_along : (kind : Kind) (from to from' : Lexemes) → Eats kind from to → length rest ≤ length to → Along from from' → (to' : Lexemes) × Eats kind from' to' × Along to to'
  eats_along kind from to from' h more a = let x = takes_along kind h.0 from to from' h.1 more a in (x.1, (x.0, x.2), x.4)

  quoted_along : (s : StrRange) (from to from' : Lexemes) → Quoted s from to → length rest ≤ length to → Along from from'
      → (r : StrRange) × (to' : Lexemes) × Quoted r from' to' × SameAt s r × Along to to'
  quoted_along s from to from' h more a = let x = takes_along (quote_kind h.0) s from to from' h.1 more a in (x.0, x.1, (h.0, x.2), x.3, x.4)

  skip_along : (from from' : Lexemes) → length rest < length (skip from) → Along from from' → Along (skip from) (skip from')
  unfolding skip
  skip_along from from' more at_rest = absurd (omega (arith, more, skip_shorter from))
  skip_along from from' more (one_more {p = p} {q = q} {ps = ps} {qs = qs} e same last along) =
      subst (λ x. Along (skip (p ∷ ps)) (cond (same_kind x k.Whitespace) qs (q ∷ qs))) (sym e) (by_test (same_kind p.kind k.Whitespace))
    where
      by_test : (b : Bool) → Along (cond b ps (p ∷ ps)) (cond b qs (q ∷ qs))
      by_test true = along
      by_test false = one_more e same last along

  index_along : (n : ℤ) (from to from' : Lexemes) → g.IndexAt here n from to → length rest ≤ length to → Along from from' → (to' : Lexemes) × g.IndexAt there n from' to' × Along to to'
  index_along n from to from' i more a = grind (arith, takes_along)

  range_step_along : (n : ℕ) (from to from' : Lexemes) → g.RangeStepAt here n from to → length rest ≤ length to → Along from from' → (to' : Lexemes) × g.RangeStepAt there n from' to' × Along to to'
  range_step_along n from to from' i more a = grind (arith, takes_along)

  bound_along : {low : Option ℤ} {from to : Lexemes} → g.BoundAt here low from to → (from' : Lexemes) → length rest < length to → Along from from'
      → (to' : Lexemes) × g.BoundAt there low from' to' × Along to to'
  bound_along g.no_bound from' more a = (from', g.no_bound, a)
  bound_along (g.bound {n = n} {from = from} mid i) from' more a =
      let x = index_along n from mid from' i (omega (arith, more, skip_shorter mid)) a in
      (skip x.0, g.bound x.0 x.1, skip_along mid x.0 more x.2)

  step_part_along : {pace : Option ℕ} {from to : Lexemes} → g.StepPartAt here pace from to → (from' : Lexemes) → length rest < length to → Along from from'
      → (to' : Lexemes) × g.StepPartAt there pace from' to' × Along to to'
  step_part_along g.no_step_part from' more a = (from', g.no_step_part, a)
  step_part_along (g.bare_colon {from = from} mid c) from' more a =
      let x = eats_along k.Split from mid from' c (omega (arith, more, skip_shorter mid)) a in
      (skip x.0, g.bare_colon x.0 x.1, skip_along mid x.0 more x.2)
  step_part_along (g.step_part {n = n} {from = from} mid b c i) from' more a =
      let more_b : length rest ≤ length b = omega (arith, more, skip_shorter b) in
      let more_mid : length rest < length (skip mid) = omega (arith, more_b, takes_shorter k.Key i.0 (skip mid) b i.1) in
      let x = eats_along k.Split from mid from' c (omega (arith, more_mid, skip_shorter mid)) a in
      let y = range_step_along n (skip mid) b (skip x.0) i more_b (skip_along mid x.0 more_mid x.2) in
      (skip y.0, g.step_part x.0 y.0 x.1 y.1, skip_along b y.0 more y.2)

  indexes_along : {ns : List ℤ} {from to : Lexemes} → g.IndexesAt here ns from to → (from' : Lexemes) → length rest < length to → Along from from'
      → (to' : Lexemes) × g.IndexesAt there ns from' to' × Along to to'
  indexes_along (g.no_index {ts = ts}) from' more a = (skip from', g.no_index, skip_along ts from' more a)
  indexes_along (g.one_index {n = n} {from = from} mid b c i later) from' more a =
      let more_b : length rest ≤ length b = omega (arith, more, indexes_shorter here later) in
      let more_mid : length rest < length (skip mid) = omega (arith, more_b, takes_shorter k.Key i.0 (skip mid) b i.1) in
      let x = eats_along k.Comma from mid from' c (omega (arith, more_mid, skip_shorter mid)) a in
      let y = index_along n (skip mid) b (skip x.0) i more_b (skip_along mid x.0 more_mid x.2) in
      let z = indexes_along later y.0 more y.2 in
      (z.0, g.one_index x.0 y.0 x.1 y.1 z.1, z.2)

  names_along : {ss : List StrRange} {from to : Lexemes} → g.NamesAt here ss from to → (from' : Lexemes) → length rest < length to → Along from from'
      → (rs : List StrRange) × (to' : Lexemes) × g.NamesAt there rs from' to' × AreSameAt here there ss rs × Along to to'
  names_along g.no_name from' more a = ([], from', g.no_name, tt, a)
  names_along (g.one_name {s = s} {from = from} mid b c q later) from' more a =
      let more_b : length rest < length (skip b) = omega (arith, more, names_shorter here later) in
      let more_mid : length rest < length (skip mid) = omega (arith, more_b, skip_shorter b, quoted_shorter s (skip mid) b q) in
      let x = eats_along k.Comma from mid from' c (omega (arith, more_mid, skip_shorter mid)) a in
      let y = quoted_along s (skip mid) b (skip x.0) q (omega (arith, more_b, skip_shorter b)) (skip_along mid x.0 more_mid x.2) in
      let z = names_along later (skip y.1) more (skip_along b y.1 more_b y.4) in
      (y.0 ∷ z.0, z.1, g.one_name x.0 y.1 x.1 y.2 z.2, (y.3, z.3), z.4)

  abbrev Token : (ParseToken → Lexemes → Lexemes → Type 0) → ParseToken → Lexemes → Lexemes → Type 0
  Token Spells token from' to = (y : ParseToken) × (to' : Lexemes) × Spells y from' to' × AlikeToken here there token y × Along to to'

  word_along : {token : ParseToken} {from to : Lexemes} → g.WordAt here token from to → (from' : Lexemes) → length rest ≤ length to → Along from from'
      → Token (g.WordAt there) token from' to
  word_along (g.dot_word {s = s} {from = from} {to = to} h) from' more a =
      let x = takes_along k.Key s from to from' h more a in (t.Key x.0, x.1, g.dot_word x.2, same_key x.3, x.4)
  word_along (g.dot_all {from = from} {to = to} h) from' more a =
      let x = eats_along k.Asterisk from to from' h more a in (t.All, x.0, g.dot_all x.1, same_all, x.2)

  plain_along : {token : ParseToken} {from to : Lexemes} → g.PlainAt here token from to → (from' : Lexemes) → length rest < length to → Along from from'
      → Token (g.PlainAt there) token from' to
  plain_along (g.in_all {from = from} mid h) from' more a =
      let x = eats_along k.Asterisk from mid from' h (omega (arith, more, skip_shorter mid)) a in
      (t.All, skip x.0, g.in_all x.0 x.1, same_all, skip_along mid x.0 more x.2)
  plain_along (g.in_index {n = n} {from = from} mid i) from' more a =
      let x = index_along n from mid from' i (omega (arith, more, skip_shorter mid)) a in
      (t.Number (whole_number n), skip x.0, g.in_index x.0 x.1, same_number (whole_number n), skip_along mid x.0 more x.2)
  plain_along (g.in_union {n = n} {m = m} {ns = ns} {from = from} mid b c i h j later) from' more a =
      let more_c : length rest ≤ length c = omega (arith, more, indexes_shorter here later) in
      let more_b : length rest < length (skip b) = omega (arith, more_c, takes_shorter k.Key j.0 (skip b) c j.1) in
      let more_mid : length rest < length (skip mid) = omega (arith, more_b, skip_shorter b, eats_shorter k.Comma (skip mid) b h) in
      let x = index_along n from mid from' i (omega (arith, more_mid, skip_shorter mid)) a in
      let y = eats_along k.Comma (skip mid) b (skip x.0) h (omega (arith, more_b, skip_shorter b)) (skip_along mid x.0 more_mid x.2) in
      let z = index_along m (skip b) c (skip y.0) j more_c (skip_along b y.0 more_b y.2) in
      let w = indexes_along later z.0 more z.2 in
      (t.Union (n ∷ m ∷ ns), w.0, g.in_union x.0 y.0 z.0 x.1 y.1 z.1 w.1, same_union (n ∷ m ∷ ns), w.2)
  plain_along (g.in_range {first = first} {last = last} {step = step} mid b c low h high by) from' more a =
      let more_c : length rest < length c = omega (arith, more, step_part_shorter here by) in
      let more_b : length rest < length (skip b) = omega (arith, more_c, bound_shorter here high) in
      let more_mid : length rest < length mid = omega (arith, more_b, skip_shorter b, eats_shorter k.Split mid b h) in
      let x = bound_along low from' more_mid a in
      let y = eats_along k.Split mid b x.0 h (omega (arith, more_b, skip_shorter b)) x.2 in
      let z = bound_along high (skip y.0) more_c (skip_along b y.0 more_b y.2) in
      let w = step_part_along by z.0 more z.2 in
      (t.Range first last step, w.0, g.in_range x.0 y.0 z.0 x.1 y.1 z.1 w.1, same_range first last step, w.2)
  plain_along (g.in_name {s = s} {from = from} mid q) from' more a =
      let x = quoted_along s from mid from' q (omega (arith, more, skip_shorter mid)) a in
      (t.Key x.0, skip x.1, g.in_name x.1 x.2, same_key x.3, skip_along mid x.1 more x.4)
  plain_along (g.in_names {s = s} {s' = s'} {from = from} mid b c q h r later) from' more a =
      let more_c : length rest < length (skip c) = omega (arith, more, names_shorter here later) in
      let more_b : length rest < length (skip b) = omega (arith, more_c, skip_shorter c, quoted_shorter s' (skip b) c r) in
      let x = quoted_along s from mid from' q (omega (arith, more_b, skip_shorter b, eats_shorter k.Comma mid b h)) a in
      let y = eats_along k.Comma mid b x.1 h (omega (arith, more_b, skip_shorter b)) x.4 in
      let z = quoted_along s' (skip b) c (skip y.0) r (omega (arith, more_c, skip_shorter c)) (skip_along b y.0 more_b y.2) in
      let w = names_along later (skip z.1) more (skip_along c z.1 more_c z.4) in
      (t.Keys (x.0 ∷ z.0 ∷ w.0), w.1, g.in_names x.1 y.0 z.1 x.2 y.1 z.2 w.2, same_keys (x.3, (z.3, w.3)), w.4)

  number_along : {d : Decimal} {from to : Lexemes} → g.NumberAt here d from to → (from' : Lexemes) → length rest ≤ length to → Along from from'
      → (to' : Lexemes) × g.NumberAt there d from' to' × Along to to'
  number_along (g.whole {from = from} {to = to} s h e) from' more a =
      let x = takes_along k.Key s from to from' h more a in
      (x.1, g.whole x.0 x.2 (ap (λ bs. decimal_of bs []) (sym x.3.bytes) ∙ e), x.4)
  number_along (g.point {from = from} {to = to} s mid b f h i j e) from' more a =
      let more_b : length rest ≤ length b = omega (arith, more, takes_shorter k.Key f b to j) in
      let x = takes_along k.Key s from mid from' h (omega (arith, more_b, eats_shorter k.Dot mid b i)) a in
      let y = eats_along k.Dot mid b x.1 i more_b x.4 in
      let z = takes_along k.Key f b to y.0 j more y.2 in
      (z.1, g.point x.0 x.1 y.0 z.0 x.2 y.1 z.2 (ap₂ decimal_of (sym x.3.bytes) (sym z.3.bytes) ∙ e), z.4)

  literal_along : {token : ParseToken} {from to : Lexemes} → g.LiteralAt here token from to → (from' : Lexemes) → length rest ≤ length to → Along from from'
      → Token (g.LiteralAt there) token from' to
  literal_along (g.quoted {s = s} {from = from} {to = to} q) from' more a =
      let x = quoted_along s from to from' q more a in (t.Key x.0, x.1, g.quoted x.2, same_key x.3, x.4)
  literal_along (g.number {d = d} h) from' more a = let x = number_along h from' more a in (t.Number d, x.0, g.number x.1, same_number d, x.2)
  literal_along (g.truth {b = b} {from = from} {to = to} s h e) from' more a =
      let x = takes_along k.Key s from to from' h more a in
      (t.Bool b, x.1, g.truth x.0 x.2 (ap truth_of (sym x.3.bytes) ∙ e), same_truth b, x.4)

  mutual
    steps_along : {n : ℕ} {ss : PathSteps} {from to : Lexemes} → g.StepsAt here n ss from to → (from' : Lexemes) → length rest < length to → Along from from'
        → (rs : PathSteps) × (to' : Lexemes) × g.StepsAt there n rs from' to' × AlikeSteps here there ss rs × Along to to'
    steps_along g.no_step from' more a = (no_steps, from', g.no_step, alike_end, a)
    steps_along (g.one_step {leaves = leaves} {bracket = bracket} mid s later) from' more a =
        let x = step_along s from' (omega (arith, more, steps_shorter here later)) a in
        let y = steps_along later x.1 more x.4 in
        (step_then leaves bracket x.0 y.0, y.1, g.one_step x.1 x.2 y.2, alike_step x.3 y.3, y.4)

    step_along : {n : ℕ} {leaves bracket : Bool} {inner : Inner} {from to : Lexemes} → g.StepAt here n leaves bracket inner from to → (from' : Lexemes) → length rest < length to
        → Along from from' → (j : Inner) × (to' : Lexemes) × g.StepAt there n leaves bracket j from' to' × AlikeInner here there inner j × Along to to'
    step_along (g.dot {from = from} mid h w) from' more a =
        let x = eats_along k.Dot from mid from' h (omega (arith, more, word_shorter here w)) a in
        let y = word_along w x.0 (omega (arith, more)) x.2 in
        (plain y.0, y.1, g.dot x.0 x.1 y.2, alike_plain y.3, y.4)
    step_along (g.dots {from = from} mid b h i w) from' more a =
        let more_b : length rest ≤ length b = omega (arith, more, word_shorter here w) in
        let x = eats_along k.Dot from mid from' h (omega (arith, more_b, eats_shorter k.Dot mid b i)) a in
        let y = eats_along k.Dot mid b x.0 i more_b x.2 in
        let z = word_along w y.0 (omega (arith, more)) y.2 in
        (plain z.0, z.1, g.dots x.0 y.0 x.1 y.1 z.2, alike_plain z.3, z.4)
    step_along (g.bracket {from = from} {to = to} mid b h i e) from' more a =
        let more_b : length rest < length b = omega (arith, more, eats_shorter k.CloseArray b to e) in
        let more_mid : length rest < length (skip mid) = omega (arith, more_b, inner_shorter here i) in
        let x = eats_along k.OpenArray from mid from' h (omega (arith, more_mid, skip_shorter mid)) a in
        let y = inner_along i (skip x.0) more_b (skip_along mid x.0 more_mid x.2) in
        let z = eats_along k.CloseArray b to y.1 e (omega (arith, more)) y.4 in
        (y.0, z.0, g.bracket x.0 y.1 x.1 y.2 z.1, y.3, z.2)
    step_along (g.dot_bracket {from = from} {to = to} mid b c h o i e) from' more a =
        let more_c : length rest < length c = omega (arith, more, eats_shorter k.CloseArray c to e) in
        let more_b : length rest ≤ length b = omega (arith, more_c, inner_shorter here i) in
        let w = eats_along k.Dot from mid from' h (omega (arith, more_b, eats_shorter k.OpenArray mid b o)) a in
        let x = eats_along k.OpenArray mid b w.0 o more_b w.2 in
        let y = inner_along i x.0 more_c x.2 in
        let z = eats_along k.CloseArray c to y.1 e (omega (arith, more)) y.4 in
        (y.0, z.0, g.dot_bracket w.0 x.0 y.1 w.1 x.1 y.2 z.1, y.3, z.2)
    step_along (g.dots_bracket {from = from} {to = to} mid b c d h j o i e) from' more a =
        let more_d : length rest < length d = omega (arith, more, eats_shorter k.CloseArray d to e) in
        let more_c : length rest < length (skip c) = omega (arith, more_d, inner_shorter here i) in
        let more_b : length rest ≤ length b = omega (arith, more_c, skip_shorter c, eats_shorter k.OpenArray b c o) in
        let v = eats_along k.Dot from mid from' h (omega (arith, more_b, eats_shorter k.Dot mid b j)) a in
        let w = eats_along k.Dot mid b v.0 j more_b v.2 in
        let x = eats_along k.OpenArray b c w.0 o (omega (arith, more_c, skip_shorter c)) w.2 in
        let y = inner_along i (skip x.0) more_d (skip_along c x.0 more_c x.2) in
        let z = eats_along k.CloseArray d to y.1 e (omega (arith, more)) y.4 in
        (y.0, z.0, g.dots_bracket v.0 w.0 x.0 y.1 v.1 w.1 x.1 y.2 z.1, y.3, z.2)

    inner_along : {n : ℕ} {inner : Inner} {from to : Lexemes} → g.InnerAt here n inner from to → (from' : Lexemes) → length rest < length to → Along from from'
        → (j : Inner) × (to' : Lexemes) × g.InnerAt there n j from' to' × AlikeInner here there inner j × Along to to'
    inner_along (g.in_plain p) from' more a = let x = plain_along p from' more a in (plain x.0, x.1, g.in_plain x.2, alike_plain x.3, x.4)
    inner_along (g.in_filter {from = from} mid b d h o c) from' more a =
        let more_d : length rest < length d = omega (arith, more, skip_shorter d) in
        let more_b : length rest ≤ length b = omega (arith, more_d, condition_shorter here c) in
        let x = eats_along k.Question from mid from' h (omega (arith, more_b, eats_shorter k.OpenParenthesis mid b o)) a in
        let y = eats_along k.OpenParenthesis mid b x.0 o more_b x.2 in
        let z = condition_along c y.0 (omega (arith, more_d)) y.2 in
        (filter z.0, skip z.1, g.in_filter x.0 y.0 z.1 x.1 y.1 z.2, alike_filter z.3, skip_along d z.1 more z.4)

    pub condition_along : {n : ℕ} {c : Condition} {from to : Lexemes} → g.ConditionAt here n c from to → (from' : Lexemes) → length rest ≤ length to → Along from from'
        → (d : Condition) × (to' : Lexemes) × g.ConditionAt there n d from' to' × AlikeCondition here there c d × Along to to'
    condition_along (g.closed {from = from} {to = to} mid p e) from' more a =
        let more_mid : length rest < length (skip mid) = omega (arith, more, eats_shorter k.CloseParenthesis (skip mid) to e) in
        let more_part : length rest < length mid = omega (arith, more_mid, skip_shorter mid) in
        let x = part_along p (skip from') more_part (skip_along from from' (omega (arith, more_part, part_shorter here p)) a) in
        let y = eats_along k.CloseParenthesis (skip mid) to (skip x.1) e more (skip_along mid x.1 more_mid x.4) in
        (x.0, y.0, g.closed x.1 x.2 y.1, x.3, y.2)
    condition_along (g.joined {o = o} {from = from} kind mid b p is e c) from' more a =
        let more_b : length rest ≤ length b = omega (arith, more, condition_shorter here c) in
        let more_mid : length rest < length (skip mid) = omega (arith, more_b, eats_shorter kind (skip mid) b e) in
        let more_part : length rest < length mid = omega (arith, more_mid, skip_shorter mid) in
        let x = part_along p (skip from') more_part (skip_along from from' (omega (arith, more_part, part_shorter here p)) a) in
        let y = eats_along kind (skip mid) b (skip x.1) e more_b (skip_along mid x.1 more_mid x.4) in
        let z = condition_along c y.0 more y.2 in
        (join o x.0 z.0, z.1, g.joined kind x.1 y.0 x.2 is y.1 z.2, alike_join x.3 z.3, z.4)

    part_along : {n : ℕ} {c : Condition} {from to : Lexemes} → g.PartAt here n c from to → (from' : Lexemes) → length rest < length to → Along from from'
        → (d : Condition) × (to' : Lexemes) × g.PartAt there n d from' to' × AlikeCondition here there c d × Along to to'
    part_along (g.parentheses {from = from} mid h c) from' more a =
        let x = eats_along k.OpenParenthesis from mid from' h (omega (arith, more, condition_shorter here c)) a in
        let y = condition_along c x.0 (omega (arith, more)) x.2 in
        (y.0, y.1, g.parentheses x.0 x.1 y.2, y.3, y.4)
    part_along (g.compared {o = o} kind mid b l is e r) from' more a =
        let more_b : length rest < length (skip b) = omega (arith, more, term_shorter here r) in
        let more_mid : length rest < length (skip mid) = omega (arith, more_b, skip_shorter b, eats_shorter kind (skip mid) b e) in
        let x = term_along l from' (omega (arith, more_mid, skip_shorter mid)) a in
        let y = eats_along kind (skip mid) b (skip x.1) e (omega (arith, more_b, skip_shorter b)) (skip_along mid x.1 more_mid x.4) in
        let z = term_along r (skip y.0) more (skip_along b y.0 more_b y.2) in
        (compare x.0 o z.0, z.1, g.compared kind x.1 y.0 x.2 is y.1 z.2, alike_compare x.3 z.3, z.4)
    part_along (g.found {from = from} mid h ss) from' more a =
        let x = eats_along k.At from mid from' h (omega (arith, more, steps_shorter here ss)) a in
        let y = steps_along ss x.0 more x.2 in
        (lone (path false y.0), y.1, g.found x.0 x.1 y.2, alike_lone (alike_path y.3), y.4)

    term_along : {n : ℕ} {l : Term} {from to : Lexemes} → g.TermAt here n l from to → (from' : Lexemes) → length rest < length to → Along from from'
        → (r : Term) × (to' : Lexemes) × g.TermAt there n r from' to' × AlikeTerm here there l r × Along to to'
    term_along (g.relative {from = from} mid h ss) from' more a =
        let x = eats_along k.At from mid from' h (omega (arith, more, steps_shorter here ss)) a in
        let y = steps_along ss x.0 more x.2 in
        (at_path (path false y.0), y.1, g.relative x.0 x.1 y.2, alike_at_path (alike_path y.3), y.4)
    term_along (g.absolute {from = from} mid h ss) from' more a =
        let x = eats_along k.Absolute from mid from' h (omega (arith, more, steps_shorter here ss)) a in
        let y = steps_along ss x.0 more x.2 in
        (at_path (path true y.0), y.1, g.absolute x.0 x.1 y.2, alike_at_path (alike_path y.3), y.4)
    term_along (g.of_literal lit) from' more a =
        let x = literal_along lit from' (omega (arith, more)) a in
        (literal x.0, x.1, g.of_literal x.2, alike_literal x.3, x.4)

-- ---- more levels spell no less

module _ (text : List ℕ) where
  mutual
    steps_deeper : {n : ℕ} {ss : PathSteps} {from to : Lexemes} → g.StepsAt text n ss from to → g.StepsAt text (suc n) ss from to
    steps_deeper g.no_step = g.no_step
    steps_deeper (g.one_step mid s later) = g.one_step mid (step_deeper s) (steps_deeper later)

    step_deeper : {n : ℕ} {leaves bracket : Bool} {inner : Inner} {from to : Lexemes} → g.StepAt text n leaves bracket inner from to → g.StepAt text (suc n) leaves bracket inner from to
    step_deeper (g.dot a h w) = g.dot a h w
    step_deeper (g.dots a b h i w) = g.dots a b h i w
    step_deeper (g.bracket a b h i e) = g.bracket a b h (inner_deeper i) e
    step_deeper (g.dot_bracket a b c h o i e) = g.dot_bracket a b c h o (inner_deeper i) e
    step_deeper (g.dots_bracket a b c d h j o i e) = g.dots_bracket a b c d h j o (inner_deeper i) e

    inner_deeper : {n : ℕ} {inner : Inner} {from to : Lexemes} → g.InnerAt text n inner from to → g.InnerAt text (suc n) inner from to
    inner_deeper (g.in_plain p) = g.in_plain p
    inner_deeper (g.in_filter a b d h o c) = g.in_filter a b d h o (condition_deeper c)

    pub condition_deeper : {n : ℕ} {c : Condition} {from to : Lexemes} → g.ConditionAt text n c from to → g.ConditionAt text (suc n) c from to
    condition_deeper (g.closed a p e) = g.closed a (part_deeper p) e
    condition_deeper (g.joined kind a b p is e c) = g.joined kind a b (part_deeper p) is e (condition_deeper c)

    part_deeper : {n : ℕ} {c : Condition} {from to : Lexemes} → g.PartAt text n c from to → g.PartAt text (suc n) c from to
    part_deeper (g.parentheses a h c) = g.parentheses a h (condition_deeper c)
    part_deeper (g.compared kind a b l is e r) = g.compared kind a b (term_deeper l) is e (term_deeper r)
    part_deeper (g.found a h ss) = g.found a h (steps_deeper ss)

    term_deeper : {n : ℕ} {l : Term} {from to : Lexemes} → g.TermAt text n l from to → g.TermAt text (suc n) l from to
    term_deeper (g.relative a h ss) = g.relative a h (steps_deeper ss)
    term_deeper (g.absolute a h ss) = g.absolute a h (steps_deeper ss)
    term_deeper (g.of_literal lit) = g.of_literal lit
