-- What is read, part by part, is what the machine of wants runs over: the parts in brackets, and literals.
use Rattle.std.proofs.Common.{◌≡◌, ◌<◌, ℕ, zero, suc, Bool, true, false, List, [], ◌∷◌, ◌++◌, length, Option, Some, None, ℤ, refl, sym, ◌∙◌, ap, cond, arith, append_assoc}
use Rattle.std.specs.Prelude.{is_some, ◌&&◌}
use Rattle.jsonpath_paths.specs.Grammar.{Lexemes}
use Rattle.jsonpath_paths.specs.Numbers.{index_of, range_step_of}
use Rattle.jsonpath_paths.specs.text.Characters.{bytes_at}
use Rattle.jsonpath_paths.specs.declared.text.str_reader.StrRange.{StrRange}
use Rattle.jsonpath_paths.specs.declared.token.tokens.Kind.{Kind}
use Rattle.jsonpath_paths.specs.declared.token.tokens.Kind.TheVariants as k
use Rattle.jsonpath_paths.specs.declared.token.tokens.ParseToken.TheVariants as t
use Rattle.jsonpath_paths.specs.token.Kinds.{same_kind}
use Rattle.jsonpath_paths.specs.plan.ParsedParts as d
use Rattle.jsonpath_paths.specs.plan.ParsedParts.{Read, ◌>>=◌, choose, only_if, take_token, eat, quoted_at, skip}
use Rattle.jsonpath_paths.specs.plan.Wants.{Want, stop, stop_on, moved, move, feed, passes, refuses, if_word, may_pass, may_end, blanks, close, plain, indexes_range_or_names, range_or_names, after_first_index, more_indexes, index, range_to, range_by, range_step, after_name, more_names, quoted, open_group, dollar, fraction, digits}
use Rattle.jsonpath_paths.proofs.parser.SoundLemmas.{take_takes, eat_eats}
use Rattle.jsonpath_paths.proofs.parser.ListLemmas.{index_falls, name_falls}
use Rattle.jsonpath_paths.proofs.parser.StopLemmas.{past_blanks, no_star, no_word, no_colon}
use Rattle.jsonpath_paths.proofs.parser.LiteralStopLemmas.{word_in, word_out}

pub not_eaten : (kind : Kind) (ts : Lexemes) → eat kind ts ≡ None → take_token kind ts ≡ None
not_eaten kind ts h = grind arith

-- a want that takes one kind of token alone
abbrev pub Refuses : Want → Kind → Type 0
Refuses v kind = (other : Kind) (w : List ℕ) → same_kind other kind ≡ false → move v other w ≡ refuses

abbrev pub Passes : Want → Kind → Type 0
Passes v kind = (other : Kind) (w : List ℕ) → same_kind other kind ≡ false → move v other w ≡ passes

index_alone : Refuses index k.Key
index_alone b w h = grind arith

pub digits_alone : Refuses digits k.Key
digits_alone b w h = grind arith

pub close_alone : Refuses close k.CloseArray
close_alone b w h = grind arith

pub opening_alone : Refuses open_group k.OpenParenthesis
opening_alone b w h = grind arith

pub dollar_alone : Refuses dollar k.Absolute
dollar_alone b w h = grind arith

range_to_passes : Passes range_to k.Key
range_to_passes b w h = grind arith

range_by_passes : Passes range_by k.Split
range_by_passes b w h = grind arith

range_step_passes : Passes range_step k.Key
range_step_passes b w h = grind arith

more_names_passes : Passes more_names k.Comma
more_names_passes b w h = grind arith

pub fraction_passes : Passes fraction k.Dot
fraction_passes b w h = grind arith

not_same : {A : Type 0} (b : Bool) (x : A) → only_if b x ≡ None → b ≡ false
not_same b x h = grind arith

module _ (text : List ℕ) where
  -- what is read goes on as the machine does behind these wants, of which some are left; where nothing is read it stops
  abbrev pub Follows : {A : Type 0} → List Want → List Want → Read A → Lexemes → Type 0
  Follows vs us None ts = (ws : List Want) → (here : Lexemes) × (stop text (vs ++ ws) ts ≡ Some here)
  Follows vs us (Some r) ts = (ws : List Want) → stop text (vs ++ ws) ts ≡ stop text (us ++ ws) r.1

  pub refuses_by : (v : Want) (kind : Kind) (ws : List Want) (ts : Lexemes) → Refuses v kind → may_pass v ≡ false → take_token kind ts ≡ None → (here : Lexemes) × (stop text (v ∷ ws) ts ≡ Some here)
  refuses_by v kind ws [] alone e h = ([], ap (λ b. cond {A = Option Lexemes} (b && may_end ws) None (Some [])) e)
  refuses_by v kind ws (p ∷ ps) alone e h =
      (p ∷ ps, ap (λ m. stop_on (moved m ws (feed ws p.kind (bytes_at text p.span))) (p ∷ ps) (λ us. stop text us ps)) (alone p.kind (bytes_at text p.span) (not_same _ _ h)))

  pub passes_by : (v : Want) (kind : Kind) (ws : List Want) (ts : Lexemes) → Passes v kind → may_pass v ≡ true → take_token kind ts ≡ None → stop text (v ∷ ws) ts ≡ stop text ws ts
  passes_by v kind ws ts alone e h = grind arith

  -- the first token is taken
  pub first_of : (vs : List Want) (kind : Kind) (ts to : Lexemes) (e : eat kind ts ≡ Some to) → stop text vs ts ≡ stop text vs (record { kind = kind; span = (eat_eats kind ts to e).0 } ∷ to)
  first_of vs kind ts to e = ap (stop text vs) (eat_eats kind ts to e).1

  pub first_taken : (vs : List Want) (kind : Kind) (ts : Lexemes) (r : StrRange × Lexemes) → take_token kind ts ≡ Some r → stop text vs ts ≡ stop text vs (record { kind = kind; span = r.0 } ∷ r.1)
  first_taken vs kind ts r e = ap (stop text vs) (take_takes kind ts r e)

  -- parts put together

  pub follows_by : {A : Type 0} (o : Read A) (vs us xs : List Want) (ts from : Lexemes) → ((ws : List Want) → stop text (vs ++ ws) ts ≡ stop text (us ++ ws) from) → Follows us xs o from → Follows vs xs o ts
  follows_by None vs us xs ts from e h = λ ws. let x = h ws in (x.0, e ws ∙ x.1)
  follows_by (Some r) vs us xs ts from e h = λ ws. e ws ∙ h ws

  pub follows_then : {A B : Type 0} (o : Read A) (f : A × Lexemes → Read B) (vs us xs : List Want) (ts : Lexemes) → Follows vs us o ts → ((r : A × Lexemes) → o ≡ Some r → Follows us xs (f r) r.1) → Follows vs xs (o >>= f) ts
  follows_then o f vs us xs ts h g = grind (arith, follows_by)

  pub follows_more : {A : Type 0} (o : Read A) (vs us xs : List Want) (ts : Lexemes) → Follows vs us o ts → Follows (vs ++ xs) (us ++ xs) o ts
  follows_more None vs us xs ts h = λ ws. let x = h (xs ++ ws) in (x.0, ap (λ l. stop text l ts) (append_assoc vs xs ws) ∙ x.1)
  follows_more (Some r) vs us xs ts h = λ ws. ap (λ l. stop text l ts) (append_assoc vs xs ws) ∙ (h (xs ++ ws) ∙ sym (ap (λ l. stop text l r.1) (append_assoc us xs ws)))

  pub follows_map : {A B : Type 0} (o : Read A) (g : A → B) (vs us : List Want) (ts : Lexemes) → Follows vs us o ts → Follows vs us (o >>= λ r. Some (g r.0, r.1)) ts
  follows_map o g vs us ts h = grind arith

  pub follows_choose : {A B : Type 0} (o : Option A) (f : A → Read B) (other : Read B) (vs us : List Want) (ts : Lexemes) → ((x : A) → o ≡ Some x → Follows vs us (f x) ts) → (o ≡ None → Follows vs us other ts)
      → Follows vs us (choose o f other) ts
  follows_choose o f other vs us ts g h = grind arith

  pub follows_bind : {A B : Type 0} (o : Option A) (f : A → Read B) (vs us : List Want) (ts : Lexemes) → ((x : A) → o ≡ Some x → Follows vs us (f x) ts)
      → (o ≡ None → (ws : List Want) → (here : Lexemes) × (stop text (vs ++ ws) ts ≡ Some here)) → Follows vs us (o >>= f) ts
  follows_bind o f vs us ts g h = grind arith

  -- a word by its meaning, and what is read behind it
  follows_word : {N B : Type 0} (v : Want) (test : List ℕ → Option N) (us xs : List Want) (g : N → Read B) (ts : Lexemes) (w : StrRange × Lexemes)
      → ((b : List ℕ) → move v k.Key b ≡ if_word (is_some (test b)) us) → take_token k.Key ts ≡ Some w → ((n : N) → Follows us xs (g n) w.1) → Follows (v ∷ []) xs (test (bytes_at text w.0) >>= g) ts
  follows_word {N = N} v test us xs g ts w moves e more =
      follows_bind (test bytes) g (v ∷ []) xs ts
      (λ n i. follows_by (g n) (v ∷ []) us xs ts w.1 (λ ws. start ws ∙ word_in (is_some (test bytes)) us ws _ _ (λ us. stop text us w.1) (ap is_some i)) (more n))
      (λ i ws. (record { kind = k.Key; span = w.0 } ∷ w.1, start ws ∙ word_out (is_some (test bytes)) us ws _ _ (λ us. stop text us w.1) (ap is_some i)))
    where
      bytes : List ℕ
      bytes = bytes_at text w.0

      start : (ws : List Want) → stop text (v ∷ ws) ts ≡ stop_on (moved (if_word (is_some (test bytes)) us) ws (feed ws k.Key bytes)) (record { kind = k.Key; span = w.0 } ∷ w.1) (λ us. stop text us w.1)
      start ws = first_taken (v ∷ ws) k.Key ts w e ∙ ap (λ m. stop_on (moved m ws (feed ws k.Key bytes)) (record { kind = k.Key; span = w.0 } ∷ w.1) (λ us. stop text us w.1)) (moves bytes)

  follows_index : (ts : Lexemes) → Follows (index ∷ []) [] (d.index_at text ts) ts
  follows_index ts =
      follows_bind (take_token k.Key ts) _ (index ∷ []) [] ts (λ w e. follows_word index index_of [] [] (λ n. Some (n, w.1)) ts w (λ b. refl) e (λ n ws. refl))
      (λ e ws. refuses_by index k.Key ws ts index_alone refl e)

  no_quote : (ws : List Want) (ts : Lexemes) → take_token k.DoubleQuoted ts ≡ None → take_token k.SingleQuoted ts ≡ None → stop text (quoted ∷ ws) ts ≡ Some ts
  no_quote ws ts h i = grind arith

  pub follows_quoted : (ts : Lexemes) → Follows (quoted ∷ []) [] (quoted_at ts) ts
  follows_quoted ts =
      follows_choose (take_token k.DoubleQuoted ts) _ _ (quoted ∷ []) [] ts (λ s e ws. first_taken (quoted ∷ ws) k.DoubleQuoted ts s e) (λ e. by_single (take_token k.SingleQuoted ts) e refl)
    where
      by_single : (o : Read StrRange) → take_token k.DoubleQuoted ts ≡ None → take_token k.SingleQuoted ts ≡ o → Follows (quoted ∷ []) [] o ts
      by_single None e i = λ ws. (ts, no_quote ws ts e i)
      by_single (Some s) e i = λ ws. first_taken (quoted ∷ ws) k.SingleQuoted ts s i

  -- lists of indexes and names

  no_more_indexes : (ws : List Want) (ts : Lexemes) → take_token k.Comma ts ≡ None → stop text (more_indexes ∷ ws) ts ≡ stop text ws (skip ts)
  unfolding skip
  no_more_indexes ws ts h = grind arith

  no_list_of_names : (ws : List Want) (ts : Lexemes) → take_token k.Comma ts ≡ None → stop text (after_name ∷ ws) ts ≡ stop text ws (skip ts)
  unfolding skip
  no_list_of_names ws ts h = grind arith

  index_alone_there : (ws : List Want) (ts : Lexemes) → take_token k.Comma ts ≡ None → take_token k.Split ts ≡ None → stop text (after_first_index ∷ ws) ts ≡ stop text ws ts
  index_alone_there ws ts h i = grind arith

  follows_indexes : (fuel : ℕ) (ts : Lexemes) → length ts < fuel → Follows (more_indexes ∷ []) [] (d.more_indexes_at text fuel ts) ts
  follows_indexes zero ts less = absurd (omega arith)
  follows_indexes (suc fuel) ts less =
      follows_choose (eat k.Comma ts) _ _ (more_indexes ∷ []) [] ts
      (λ c e. follows_by _ (more_indexes ∷ []) (index ∷ more_indexes ∷ []) [] ts (skip c)
      (λ ws. first_of (more_indexes ∷ ws) k.Comma ts c e ∙ past_blanks text (index ∷ more_indexes ∷ ws) c)
      (follows_then (d.index_at text (skip c)) _ (index ∷ more_indexes ∷ []) (more_indexes ∷ []) [] (skip c)
      (follows_more (d.index_at text (skip c)) (index ∷ []) [] (more_indexes ∷ []) (skip c) (follows_index (skip c)))
      (λ n h. let falls = index_falls text ts c n e h in
      follows_map (d.more_indexes_at text fuel n.1) (λ ns. n.0 ∷ ns) (more_indexes ∷ []) [] n.1 (follows_indexes fuel n.1 (omega arith)))))
      (λ e ws. no_more_indexes ws ts (not_eaten k.Comma ts e))

  follows_names : (fuel : ℕ) (ts : Lexemes) → length ts < fuel → Follows (more_names ∷ []) [] (d.more_names_at text fuel ts) ts
  follows_names zero ts less = absurd (omega arith)
  follows_names (suc fuel) ts less =
      follows_choose (eat k.Comma ts) _ _ (more_names ∷ []) [] ts
      (λ c e. follows_by _ (more_names ∷ []) (quoted ∷ blanks ∷ more_names ∷ []) [] ts (skip c)
      (λ ws. first_of (more_names ∷ ws) k.Comma ts c e ∙ past_blanks text (quoted ∷ blanks ∷ more_names ∷ ws) c)
      (follows_then (quoted_at (skip c)) _ (quoted ∷ blanks ∷ more_names ∷ []) (blanks ∷ more_names ∷ []) [] (skip c)
      (follows_more (quoted_at (skip c)) (quoted ∷ []) [] (blanks ∷ more_names ∷ []) (skip c) (follows_quoted (skip c)))
      (λ s h. let falls = name_falls text ts c s e h in
      follows_by _ (blanks ∷ more_names ∷ []) (more_names ∷ []) [] s.1 (skip s.1) (λ ws. past_blanks text (more_names ∷ ws) s.1)
      (follows_map (d.more_names_at text fuel (skip s.1)) (λ ss. s.0 ∷ ss) (more_names ∷ []) [] (skip s.1) (follows_names fuel (skip s.1) (omega arith))))))
      (λ e ws. passes_by more_names k.Comma ws ts more_names_passes refl (not_eaten k.Comma ts e))

  -- ranges

  follows_bound : (ts : Lexemes) → Follows (range_to ∷ []) [] (d.range_bound_at text ts) ts
  follows_bound ts =
      follows_choose (take_token k.Key ts) _ _ (range_to ∷ []) [] ts
      (λ w e. follows_word range_to index_of (blanks ∷ []) [] (λ n. Some (Some n, skip w.1)) ts w (λ b. refl) e (λ n ws. past_blanks text ws w.1))
      (λ e ws. passes_by range_to k.Key ws ts range_to_passes refl e)

  follows_step : (ts : Lexemes) → Follows (range_step ∷ []) [] (d.optional_range_step text ts) ts
  follows_step ts =
      follows_choose (take_token k.Key ts) _ _ (range_step ∷ []) [] ts
      (λ w e. follows_word range_step range_step_of (blanks ∷ []) [] (λ n. Some (Some n, skip w.1)) ts w (λ b. refl) e (λ n ws. past_blanks text ws w.1))
      (λ e ws. passes_by range_step k.Key ws ts range_step_passes refl e)

  follows_step_part : (ts : Lexemes) → Follows (range_by ∷ []) [] (d.range_step_part_at text ts) ts
  follows_step_part ts =
      follows_choose (eat k.Split ts) _ _ (range_by ∷ []) [] ts
      (λ c e. follows_by (d.optional_range_step text (skip c)) (range_by ∷ []) (range_step ∷ []) [] ts (skip c)
      (λ ws. first_of (range_by ∷ ws) k.Split ts c e ∙ past_blanks text (range_step ∷ ws) c) (follows_step (skip c)))
      (λ e ws. passes_by range_by k.Split ws ts range_by_passes refl (not_eaten k.Split ts e))

  follows_range : (low : Option ℤ) (ts : Lexemes) → Follows (blanks ∷ range_to ∷ range_by ∷ []) [] (d.rest_of_range text low ts) ts
  follows_range low ts =
      follows_by _ (blanks ∷ range_to ∷ range_by ∷ []) (range_to ∷ range_by ∷ []) [] ts (skip ts) (λ ws. past_blanks text (range_to ∷ range_by ∷ ws) ts)
      (follows_then (d.range_bound_at text (skip ts)) _ (range_to ∷ range_by ∷ []) (range_by ∷ []) [] (skip ts)
      (follows_more (d.range_bound_at text (skip ts)) (range_to ∷ []) [] (range_by ∷ []) (skip ts) (follows_bound (skip ts)))
      (λ last h. follows_map (d.range_step_part_at text last.1) (t.Range low last.0) (range_by ∷ []) [] last.1 (follows_step_part last.1)))

  -- what is in brackets and no filter

  follows_union : (n : ℤ) (ts : Lexemes) → Follows (blanks ∷ index ∷ more_indexes ∷ []) [] (d.rest_of_union text n ts) ts
  follows_union n ts =
      follows_by _ (blanks ∷ index ∷ more_indexes ∷ []) (index ∷ more_indexes ∷ []) [] ts (skip ts) (λ ws. past_blanks text (index ∷ more_indexes ∷ ws) ts)
      (follows_then (d.index_at text (skip ts)) _ (index ∷ more_indexes ∷ []) (more_indexes ∷ []) [] (skip ts)
      (follows_more (d.index_at text (skip ts)) (index ∷ []) [] (more_indexes ∷ []) (skip ts) (follows_index (skip ts)))
      (λ m h. follows_map (d.with_more_indexes text (n ∷ m.0 ∷ []) m.1) t.Union (more_indexes ∷ []) [] m.1
      (follows_map (d.more_indexes_at text (suc (length m.1)) m.1) (λ ns. n ∷ m.0 ∷ ns) (more_indexes ∷ []) [] m.1 (follows_indexes (suc (length m.1)) m.1 (omega arith)))))

  follows_behind_index : (n : ℤ) (ts : Lexemes) → Follows (after_first_index ∷ []) [] (d.index_union_or_range text n ts) ts
  follows_behind_index n ts =
      follows_choose (eat k.Comma ts) _ _ (after_first_index ∷ []) [] ts
      (λ c e. follows_by (d.rest_of_union text n c) (after_first_index ∷ []) (blanks ∷ index ∷ more_indexes ∷ []) [] ts c (λ ws. first_of (after_first_index ∷ ws) k.Comma ts c e) (follows_union n c))
      (λ e. follows_choose (eat k.Split ts) _ _ (after_first_index ∷ []) [] ts
      (λ c i. follows_by (d.rest_of_range text (Some n) c) (after_first_index ∷ []) (blanks ∷ range_to ∷ range_by ∷ []) [] ts c (λ ws. first_of (after_first_index ∷ ws) k.Split ts c i) (follows_range (Some n) c))
      (λ i ws. index_alone_there ws ts (not_eaten k.Comma ts e) (not_eaten k.Split ts i)))

  follows_name_list : (s : StrRange) (ts : Lexemes) → Follows (blanks ∷ quoted ∷ blanks ∷ more_names ∷ []) [] (d.rest_of_name_list text s ts) ts
  follows_name_list s ts =
      follows_by _ (blanks ∷ quoted ∷ blanks ∷ more_names ∷ []) (quoted ∷ blanks ∷ more_names ∷ []) [] ts (skip ts) (λ ws. past_blanks text (quoted ∷ blanks ∷ more_names ∷ ws) ts)
      (follows_then (quoted_at (skip ts)) _ (quoted ∷ blanks ∷ more_names ∷ []) (blanks ∷ more_names ∷ []) [] (skip ts)
      (follows_more (quoted_at (skip ts)) (quoted ∷ []) [] (blanks ∷ more_names ∷ []) (skip ts) (follows_quoted (skip ts)))
      (λ r h. follows_by _ (blanks ∷ more_names ∷ []) (more_names ∷ []) [] r.1 (skip r.1) (λ ws. past_blanks text (more_names ∷ ws) r.1)
      (follows_map (d.with_more_names text (s ∷ r.0 ∷ []) (skip r.1)) t.Keys (more_names ∷ []) [] (skip r.1)
      (follows_map (d.more_names_at text (suc (length (skip r.1))) (skip r.1)) (λ ss. s ∷ r.0 ∷ ss) (more_names ∷ []) [] (skip r.1)
      (follows_names (suc (length (skip r.1))) (skip r.1) (omega arith))))))

  follows_behind_name : (s : StrRange) (ts : Lexemes) → Follows (after_name ∷ []) [] (d.name_or_name_list text s ts) ts
  follows_behind_name s ts =
      follows_choose (eat k.Comma ts) _ _ (after_name ∷ []) [] ts
      (λ c e. follows_by (d.rest_of_name_list text s c) (after_name ∷ []) (blanks ∷ quoted ∷ blanks ∷ more_names ∷ []) [] ts c (λ ws. first_of (after_name ∷ ws) k.Comma ts c e) (follows_name_list s c))
      (λ e ws. no_list_of_names ws ts (not_eaten k.Comma ts e))

  follows_range_or_names : (ts : Lexemes) → Follows (range_or_names ∷ []) [] (d.range_or_names text ts) ts
  follows_range_or_names ts =
      follows_choose (eat k.Split ts) _ _ (range_or_names ∷ []) [] ts
      (λ c e. follows_by (d.rest_of_range text None c) (range_or_names ∷ []) (blanks ∷ range_to ∷ range_by ∷ []) [] ts c (λ ws. first_of (range_or_names ∷ ws) k.Split ts c e) (follows_range None c))
      (λ e. follows_by (d.quoted_names_at text ts) (range_or_names ∷ []) (quoted ∷ after_name ∷ []) [] ts ts (λ ws. no_colon text ws ts (not_eaten k.Split ts e))
      (follows_then (quoted_at ts) _ (quoted ∷ after_name ∷ []) (after_name ∷ []) [] ts (follows_more (quoted_at ts) (quoted ∷ []) [] (after_name ∷ []) ts (follows_quoted ts))
      (λ s h. follows_behind_name s.0 s.1)))

  pub follows_plain : (ts : Lexemes) → Follows (plain ∷ []) [] (d.plain_at text ts) ts
  unfolding d.plain_at
  follows_plain ts =
      follows_choose (eat k.Asterisk ts) _ _ (plain ∷ []) [] ts (λ a e ws. first_of (plain ∷ ws) k.Asterisk ts a e ∙ past_blanks text ws a)
      (λ e. follows_by (d.indexes_range_or_names text ts) (plain ∷ []) (indexes_range_or_names ∷ []) [] ts ts (λ ws. no_star text ws ts (not_eaten k.Asterisk ts e))
      (follows_choose (take_token k.Key ts) _ _ (indexes_range_or_names ∷ []) [] ts
      (λ w i. follows_word indexes_range_or_names index_of (blanks ∷ after_first_index ∷ []) [] (λ n. d.index_union_or_range text n (skip w.1)) ts w (λ b. refl) i
      (λ n. follows_by (d.index_union_or_range text n (skip w.1)) (blanks ∷ after_first_index ∷ []) (after_first_index ∷ []) [] w.1 (skip w.1) (λ ws. past_blanks text (after_first_index ∷ ws) w.1)
      (follows_behind_index n (skip w.1))))
      (λ i. follows_by (d.range_or_names text ts) (indexes_range_or_names ∷ []) (range_or_names ∷ []) [] ts ts (λ ws. no_word text ws ts i) (follows_range_or_names ts))))
