-- One entry of a list behind another.
use Rattle.std.proofs.Common.{◌≡◌, ◌<◌, ℕ, zero, suc, List, [], ◌∷◌, ◌++◌, length, Option, Some, None, refl, ap, sym, ◌∙◌, ℤ, arith, append_assoc}
use Rattle.jsonpath_paths.specs.Grammar.{Lexemes}
use Rattle.jsonpath_paths.specs.plan.ParsedParts as d
use Rattle.jsonpath_paths.specs.plan.ParsedParts.{Read, ◌>>=◌, choose, take_token, eat, quoted_at, skip}
use Rattle.jsonpath_paths.specs.declared.text.str_reader.StrRange.{StrRange}
use Rattle.jsonpath_paths.specs.declared.token.tokens.Kind.TheVariants as k
use Rattle.jsonpath_paths.proofs.parser.SoundLemmas.{eat_eats, sound_index, sound_quoted}
use Rattle.jsonpath_paths.proofs.parser.ShorterLemmas.{skip_shorter, takes_shorter, eats_shorter, quoted_shorter}

by_chosen : {A B : Type 0} (o : Option A) (f g : A → Option B) (other : Option B) → ((x : A) → o ≡ Some x → f x ≡ g x) → choose o f other ≡ choose o g other
by_chosen o f g other h = grind arith

by_found : {A B : Type 0} (o : Option A) (f g : A → Option B) → ((x : A) → o ≡ Some x → f x ≡ g x) → (o >>= f) ≡ (o >>= g)
by_found o f g h = grind arith

-- an entry put before those read
abbrev add : {A : Type 0} → A → Read (List A) → Read (List A)
add x o = o >>= λ xs. Some (x ∷ xs.0, xs.1)

-- the entries that are done put before those read
abbrev put : {A : Type 0} → List A → Read (List A) → Read (List A)
put done o = o >>= λ xs. Some (done ++ xs.0, xs.1)

behind : {A : Type 0} (done : List A) (x : A) (o : Read (List A)) → put done (add x o) ≡ put (done ++ x ∷ []) o
behind done x None = refl
behind done x (Some xs) = ap (λ ys. Some (ys, xs.1)) (sym (append_assoc done (x ∷ []) xs.0))

eaten : (ts c : Lexemes) (s : StrRange) → take_token k.Comma ts ≡ Some (s, c) → eat k.Comma ts ≡ Some c
eaten ts c s e = ap (λ o. o >>= λ x. Some x.1) e

module _ (text : List ℕ) where
  pub index_falls : (ts c : Lexemes) (n : ℤ × Lexemes) → eat k.Comma ts ≡ Some c → d.index_at text (skip c) ≡ Some n → length n.1 < length ts
  index_falls ts c n e h =
      let i = sound_index text (skip c) n h in
      omega (arith, eats_shorter k.Comma ts c (eat_eats k.Comma ts c e), skip_shorter c, takes_shorter k.Key i.0 (skip c) n.1 i.1)

  indexes_fuel : (f g : ℕ) (ts : Lexemes) → length ts < f → length ts < g → d.more_indexes_at text f ts ≡ d.more_indexes_at text g ts
  indexes_fuel zero g ts h i = absurd (omega arith)
  indexes_fuel (suc f) zero ts h i = absurd (omega arith)
  indexes_fuel (suc f) (suc g) ts h i =
      by_chosen (eat k.Comma ts) _ _ _ (λ c e. by_found (d.index_at text (skip c)) _ _ (λ n m.
      let falls = index_falls ts c n e m in
      ap (λ o. o >>= λ ns. Some (n.0 ∷ ns.0, ns.1)) (indexes_fuel f g n.1 (omega arith) (omega arith))))

  abbrev next_index : ℕ → Lexemes → Read (List ℤ)
  next_index fuel c = d.index_at text (skip c) >>= λ n. add n.0 (d.more_indexes_at text fuel n.1)

  pub indexes_more : (done : List ℤ) (ts c : Lexemes) (s : StrRange) (n : ℤ × Lexemes) → take_token k.Comma ts ≡ Some (s, c) → d.index_at text (skip c) ≡ Some n
      → d.with_more_indexes text done ts ≡ d.with_more_indexes text (done ++ n.0 ∷ []) n.1
  indexes_more done ts c s n e h =
      let falls = index_falls ts c n (eaten ts c s e) h in
      let same = indexes_fuel (length ts) (suc (length n.1)) n.1 (omega arith) (omega arith) in
      ap (λ o. put done (choose o (next_index (length ts)) (Some ([], skip ts)))) (eaten ts c s e)
      ∙ (ap (λ (o : Option (ℤ × Lexemes)). put done (o >>= λ n. add n.0 (d.more_indexes_at text (length ts) n.1))) h
      ∙ (ap (λ o. put done (add n.0 o)) same ∙ behind done n.0 (d.more_indexes_at text (suc (length n.1)) n.1)))

  pub name_falls : (ts c : Lexemes) (s : StrRange × Lexemes) → eat k.Comma ts ≡ Some c → quoted_at (skip c) ≡ Some s → length (skip s.1) < length ts
  name_falls ts c s e h =
      omega (arith, eats_shorter k.Comma ts c (eat_eats k.Comma ts c e), skip_shorter c, skip_shorter s.1, quoted_shorter s.0 (skip c) s.1 (sound_quoted (skip c) s h))

  names_fuel : (f g : ℕ) (ts : Lexemes) → length ts < f → length ts < g → d.more_names_at text f ts ≡ d.more_names_at text g ts
  names_fuel zero g ts h i = absurd (omega arith)
  names_fuel (suc f) zero ts h i = absurd (omega arith)
  names_fuel (suc f) (suc g) ts h i =
      by_chosen (eat k.Comma ts) _ _ _ (λ c e. by_found (quoted_at (skip c)) _ _ (λ s m.
      let falls = name_falls ts c s e m in
      ap (λ o. o >>= λ ss. Some (s.0 ∷ ss.0, ss.1)) (names_fuel f g (skip s.1) (omega arith) (omega arith))))

  abbrev next_name : ℕ → Lexemes → Read (List StrRange)
  next_name fuel c = quoted_at (skip c) >>= λ s. add s.0 (d.more_names_at text fuel (skip s.1))

  pub names_more : (done : List StrRange) (ts c : Lexemes) (s : StrRange) (q : StrRange × Lexemes) → take_token k.Comma ts ≡ Some (s, c) → quoted_at (skip c) ≡ Some q
      → d.with_more_names text done ts ≡ d.with_more_names text (done ++ q.0 ∷ []) (skip q.1)
  names_more done ts c s q e h =
      let falls = name_falls ts c q (eaten ts c s e) h in
      let same = names_fuel (length ts) (suc (length (skip q.1))) (skip q.1) (omega arith) (omega arith) in
      ap (λ o. put done (choose o (next_name (length ts)) (Some ([], ts)))) (eaten ts c s e)
      ∙ (ap (λ (o : Option (StrRange × Lexemes)). put done (o >>= λ s. add s.0 (d.more_names_at text (length ts) (skip s.1)))) h
      ∙ (ap (λ o. put done (add q.0 o)) same ∙ behind done q.0 (d.more_names_at text (suc (length (skip q.1))) (skip q.1))))
