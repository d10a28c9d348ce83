-- Behind the quote that closes a text, one character at a time.
use Rattle.std.proofs.Common.{◌≡◌, ℕ, ◌+◌, Bool, true, false, List, [], ◌∷◌, Option, Some, None, Result, Ok, Err, ◌∙◌, ap, refl, take, cond, arith}
use Rattle.std.proofs.lemmas.Bool.{eq-eqb, ne_eqb}
use Rattle.jsonpath_paths.specs.declared.token.tokens.Kind.{Kind}
use Rattle.std.specs.Prelude.{MatchResult, option_map, ◌==◌, ◌≢◌}
use Rattle.jsonpath_paths.specs.text.TextPlace.{Place, ahead, past, span_to}
use Rattle.jsonpath_paths.specs.text.Characters.{backslash}
use Rattle.jsonpath_paths.specs.token.Reading.{closing, quoted_lexeme}
use Rattle.jsonpath_paths.specs.plan.NextToken.{closes_at, ends_at}
use Rattle.jsonpath_paths.specs.declared.text.str_reader.StrRange.{StrRange}
use Rattle.jsonpath_paths.specs.declared.text.str_reader.ReaderError.{ReaderError}

module _ (quote : ℕ) where
  pub closing_here : (c : ℕ) (cs : List ℕ) → (c == quote) ≡ true → closing quote (c ∷ cs) ≡ Some 1
  closing_here c cs h = grind arith

  pub closing_plain : (c : ℕ) (cs : List ℕ) → (c == quote) ≡ false → (c == backslash) ≡ false → closing quote (c ∷ cs) ≡ option_map (λ n. 1 + n) (closing quote cs)
  closing_plain c cs h g = grind arith

  pub closing_guard : (c d : ℕ) (cs : List ℕ) → (c == quote) ≡ false → (c == backslash) ≡ true → closing quote (c ∷ d ∷ cs) ≡ option_map (λ n. 2 + n) (closing quote cs)
  closing_guard c d cs h g = grind arith

  abbrev at : Place → List ℕ → Option ℕ → Option Place
  at p cs o = option_map (λ n. past p (take n cs)) o

  one_step : (p r : Place) (c : ℕ) (cs : List ℕ) (o : Option ℕ) → r ≡ past p (c ∷ []) → at p (c ∷ cs) (option_map (λ n. 1 + n) o) ≡ at r cs o
  one_step p r c cs o f = grind arith

  pub closes_plain : (p r : Place) (c : ℕ) → ahead p ≡ c ∷ ahead r → r ≡ past p (c ∷ []) → c ≢ quote → c ≢ backslash → closes_at quote p ≡ closes_at quote r
  closes_plain p r c e f other plain =
      let h = ne_eqb c quote other in
      let g = ne_eqb c backslash plain in
      ap (λ cs. at p cs (closing quote cs)) e ∙ (ap (at p (c ∷ ahead r)) (closing_plain c (ahead r) h g) ∙ one_step p r c (ahead r) (closing quote (ahead r)) f)

  two_steps : (o : Option ℕ) → option_map (λ n. 2 + n) o ≡ option_map (λ n. 1 + n) (option_map (λ n. 1 + n) o)
  two_steps o = grind arith

  pub closes_guard : (p r t : Place) (c : ℕ) (x : Result (StrRange × ℕ) ReaderError) → ahead p ≡ c ∷ ahead r → r ≡ past p (c ∷ []) → c ≢ quote → c ≡ backslash
      → MatchResult x (λ x. (ahead r ≡ x.1 ∷ ahead t) × (t ≡ past r (x.1 ∷ [])) × (x.0 ≡ span_to r t)) (λ _. (ahead r ≡ []) × (t ≡ r)) → closes_at quote p ≡ closes_at quote t
  closes_guard p r t c (Ok x) e f other same n =
      let h = ne_eqb c quote other in
      let g = eq-eqb c backslash same in
      let both = e ∙ ap (λ cs. c ∷ cs) n.0 in
      ap (λ cs. at p cs (closing quote cs)) both
      ∙ (ap (at p (c ∷ x.1 ∷ ahead t)) (closing_guard c x.1 (ahead t) h g ∙ two_steps (closing quote (ahead t)))
      ∙ (one_step p r c (x.1 ∷ ahead t) (option_map (λ n. 1 + n) (closing quote (ahead t))) f ∙ one_step r t x.1 (ahead t) (closing quote (ahead t)) n.1))
  closes_guard p r t c (Err x) e f other same n = grind arith

  pub quoted_ends : (kind : Kind) (p r : Place) (t : Bool) → closes_at quote p ≡ cond t (Some r) None → ends_at (quoted_lexeme kind quote (ahead p)) p ≡ cond t (Some (kind, r)) None
  quoted_ends kind p r t h = by_count (closing quote (ahead p)) t h
    where
      by_count : (o : Option ℕ) (t : Bool) → at p (ahead p) o ≡ cond t (Some r) None → ends_at (option_map (λ n. (kind, 1 + n)) o) p ≡ cond t (Some (kind, r)) None
      by_count None true h = cc
      by_count None false h = refl
      by_count (Some n) true h =
          let same : past p (take n (ahead p)) ≡ r = cc in
          ap (λ m. Some (kind, past p (take m (ahead p)))) (omega arith) ∙ ap (λ q. Some (kind, q)) same
      by_count (Some n) false h = cc
