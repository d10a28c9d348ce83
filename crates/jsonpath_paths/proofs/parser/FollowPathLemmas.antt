-- What is read, part by part, is what the machine of wants runs over: literals, filters, steps and whole paths.
use Rattle.std.proofs.Common.{◌≡◌, ◌<◌, ℕ, zero, suc, Bool, true, false, List, [], ◌∷◌, ◌++◌, length, Option, Some, None, refl, sym, ◌∙◌, ap, subst, arith}
use Rattle.std.specs.Prelude.{is_some, if◌then◌else◌}
use Rattle.jsonpath_paths.specs.Grammar.{Lexemes, comparison, connective, levels}
use Rattle.jsonpath_paths.specs.Literals.{truth_of}
use Rattle.jsonpath_paths.specs.Numbers.{decimal_of}
use Rattle.jsonpath_paths.specs.text.Characters.{bytes_at}
use Rattle.jsonpath_paths.specs.declared.decimal.Decimal.{Decimal}
use Rattle.jsonpath_paths.specs.declared.text.str_reader.StrRange.{StrRange}
use Rattle.jsonpath_paths.specs.declared.token.tokens.FilterToken.{FilterToken}
use Rattle.jsonpath_paths.specs.declared.token.tokens.Kind.{Kind}
use Rattle.jsonpath_paths.specs.declared.token.tokens.Kind.TheVariants as k
use Rattle.jsonpath_paths.specs.declared.token.tokens.ParseToken.TheVariants as t
use Rattle.jsonpath_paths.specs.tree.Tree.{Path, PathSteps, Inner, Condition, Term}
use Rattle.jsonpath_paths.specs.tree.Tree as tree
use Rattle.jsonpath_paths.specs.plan.ParsedParts as d
use Rattle.jsonpath_paths.specs.plan.ParsedParts.{Read, ◌>>=◌, take_token, eat, quoted_at, by_kind, skip, begins_step}
use Rattle.jsonpath_paths.specs.plan.Wants.{Want, Reaction, stop, stop_on, moved, feed, takes, refuses, if_word, literal_word, blanks, steps, step, word, after_dot, after_dots, close, inner, plain, quoted, open_group, condition, part, candidate_tail, tail, sign, side_behind_sign, term, literal, fraction, digits, dollar, whole_wants}
use Rattle.jsonpath_paths.proofs.parser.LevelLemmas.{falls}
use Rattle.jsonpath_paths.proofs.parser.StopLemmas.{past_blanks, no_question, no_path, no_group, no_word_literal, dot_word, dots_word, step_next, no_step_next, sign_next, no_sign_next, compared_next, alone_next, condition_past_blanks, tail_refused}
use Rattle.jsonpath_paths.proofs.parser.DeeperStopLemmas.{tail_deeper, deeper_stop}
use Rattle.jsonpath_paths.proofs.parser.LiteralStopLemmas.{word_in, word_out, any_whole, number_word}
use Rattle.jsonpath_paths.proofs.parser.FollowLemmas.{Follows, not_eaten, refuses_by, passes_by, first_of, first_taken, follows_by, follows_then, follows_more, follows_map, follows_choose, follows_bind, follows_quoted, follows_plain, digits_alone, fraction_passes, close_alone, opening_alone, dollar_alone}

module _ (text : List ℕ) where
  follows_number : (w : List ℕ) (ts : Lexemes) → is_some (decimal_of w []) ≡ true → Follows text (fraction ∷ []) [] (d.rest_of_number text w ts) ts
  follows_number w ts whole_word =
      follows_choose text (eat k.Dot ts) _ _ (fraction ∷ []) [] ts
      (λ c e. follows_by text _ (fraction ∷ []) (digits ∷ []) [] ts c (λ ws. first_of text (fraction ∷ ws) k.Dot ts c e)
      (follows_bind text (take_token k.Key c) _ (digits ∷ []) [] c
      (λ f i. follows_bind text (decimal_of w (bytes_at text f.0)) (λ x. Some (x, f.1)) (digits ∷ []) [] c
      (λ x h ws. first_taken text (digits ∷ ws) k.Key c f i
      ∙ word_in (is_some (decimal_of (48 ∷ []) (bytes_at text f.0))) [] ws _ _ (λ us. stop text us f.1) (sym (any_whole w (bytes_at text f.0) whole_word) ∙ ap is_some h))
      (λ h ws. (
        record { kind = k.Key; span = f.0 } ∷ f.1,
        first_taken text (digits ∷ ws) k.Key c f i
            ∙ word_out (is_some (decimal_of (48 ∷ []) (bytes_at text f.0))) [] ws _ _ (λ us. stop text us f.1) (sym (any_whole w (bytes_at text f.0) whole_word) ∙ ap is_some h),
      )))
      (λ i ws. refuses_by text digits k.Key ws c digits_alone refl i)))
      (λ e. follows_bind text (decimal_of w []) (λ x. Some (x, ts)) (fraction ∷ []) [] ts (λ x h ws. passes_by text fraction k.Dot ws ts fraction_passes refl (not_eaten k.Dot ts e))
      (λ h. cc (whole_word, ap is_some h)))

  -- what a literal word does
  word_moves : (w : List ℕ) (b e : Bool) → is_some (truth_of w) ≡ b → is_some (decimal_of w []) ≡ e → literal_word w [] ≡ (if b then takes [] else if_word e (fraction ∷ []))
  word_moves w b e h i = ap (λ b. if b then takes [] else if_word (is_some (decimal_of w [])) (fraction ∷ [])) h ∙ ap (λ e. if b then takes [] else if_word e (fraction ∷ [])) i

  follows_literal : (ts : Lexemes) → Follows text (literal ∷ []) [] (d.literal_at text ts) ts
  unfolding d.literal_at
  follows_literal ts =
      follows_choose text (take_token k.Key ts) _ _ (literal ∷ []) [] ts (λ w e. by_word w e)
      (λ e. follows_by text _ (literal ∷ []) (quoted ∷ []) [] ts ts (λ ws. no_word_literal text ws ts e) (follows_map text (quoted_at ts) t.Key (quoted ∷ []) [] ts (follows_quoted text ts)))
    where
      start : (w : StrRange × Lexemes) (m : Reaction) → take_token k.Key ts ≡ Some w → literal_word (bytes_at text w.0) [] ≡ m → (ws : List Want)
          → stop text (literal ∷ ws) ts ≡ stop_on (moved m ws (feed ws k.Key (bytes_at text w.0))) (record { kind = k.Key; span = w.0 } ∷ w.1) (λ us. stop text us w.1)
      start w m e h ws = first_taken text (literal ∷ ws) k.Key ts w e ∙ ap (λ m. stop_on (moved m ws (feed ws k.Key (bytes_at text w.0))) (record { kind = k.Key; span = w.0 } ∷ w.1) (λ us. stop text us w.1)) h

      by_number : (w : StrRange × Lexemes) → take_token k.Key ts ≡ Some w → truth_of (bytes_at text w.0) ≡ None → (b : Bool) → is_some (decimal_of (bytes_at text w.0) []) ≡ b → (o : Read Decimal)
          → d.rest_of_number text (bytes_at text w.0) w.1 ≡ o → (is_some (decimal_of (bytes_at text w.0) []) ≡ true → Follows text (fraction ∷ []) [] o w.1) → Follows text (literal ∷ []) [] (o >>= λ x. Some (t.Number x.0, x.1)) ts
      by_number w e no_truth true h o is follows =
          follows_by text (o >>= λ x. Some (t.Number x.0, x.1)) (literal ∷ []) (fraction ∷ []) [] ts w.1 (start w (takes (fraction ∷ [])) e (word_moves (bytes_at text w.0) false true (ap is_some no_truth) h))
          (follows_map text o t.Number (fraction ∷ []) [] w.1 (follows h))
      by_number w e no_truth false h None is follows = λ ws. (record { kind = k.Key; span = w.0 } ∷ w.1, start w refuses e (word_moves (bytes_at text w.0) false false (ap is_some no_truth) h) ws)
      by_number w e no_truth false h (Some r) is follows = cc (h, number_word text (bytes_at text w.0) w.1 r is)

      by_word : (w : StrRange × Lexemes) → take_token k.Key ts ≡ Some w → Follows text (literal ∷ []) [] (d.literal_from_word text (bytes_at text w.0) w.1) ts
      by_word w e =
          let bytes = bytes_at text w.0 in
          follows_choose text (truth_of bytes) _ _ (literal ∷ []) [] ts (λ b h ws. start w (takes []) e (word_moves bytes true (is_some (decimal_of bytes [])) (ap is_some h) refl) ws)
          (λ h. by_number w e h (is_some (decimal_of bytes [])) refl (d.rest_of_number text bytes w.1) refl (λ i. follows_number bytes w.1 i))

-- what `deeper` reads is a condition of one level less, if there is one
abbrev pub Deep : List ℕ → ℕ → (Lexemes → Read Condition) → Type 0
Deep text zero deeper = (ts : Lexemes) → deeper ts ≡ None
Deep text (suc m) deeper = (ts : Lexemes) → Follows text (condition m ∷ []) [] (deeper ts) ts

-- both end, or the machine stops
abbrev EndsWith : Option Path → Option Lexemes → Type 0
EndsWith None stopped = (here : Lexemes) × (stopped ≡ Some here)
EndsWith (Some p) stopped = stopped ≡ None

none_follows : {A : Type 0} (text : List ℕ) (o : Read A) (vs us : List Want) (ts : Lexemes) → o ≡ None → ((ws : List Want) → (here : Lexemes) × (stop text (vs ++ ws) ts ≡ Some here)) → Follows text vs us o ts
none_follows text o vs us ts e h = grind arith

follows_deeper : (text : List ℕ) (n : ℕ) (deeper : Lexemes → Read Condition) → Deep text n deeper → (vs us : List Want) (ts o : Lexemes)
    → ((ws : List Want) → stop text (vs ++ ws) ts ≡ deeper_stop text (us ++ ws) n ts o) → Follows text vs us (deeper o) ts
follows_deeper text zero deeper deep vs us ts o e = none_follows text (deeper o) vs us ts (deep o) (λ ws. (ts, e ws))
follows_deeper text (suc m) deeper deep vs us ts o e = follows_by text (deeper o) vs (condition m ∷ us) us ts o e (follows_more text (deeper o) (condition m ∷ []) [] us o (deep o))

filter_opened : (text : List ℕ) (n : ℕ) (ws : List Want) (ts q o : Lexemes) → eat k.Question ts ≡ Some q → eat k.OpenParenthesis q ≡ Some o → stop text (inner n ∷ ws) ts ≡ deeper_stop text (blanks ∷ ws) n ts o
filter_opened text n ws ts q o e i = grind arith

filter_unopened : (text : List ℕ) (n : ℕ) (ws : List Want) (ts q : Lexemes) → eat k.Question ts ≡ Some q → take_token k.OpenParenthesis q ≡ None → (here : Lexemes) × (stop text (inner n ∷ ws) ts ≡ Some here)
filter_unopened text zero ws ts q e i = (_, first_of text (inner zero ∷ ws) k.Question ts q e)
filter_unopened text (suc m) ws ts q e i =
    let r = refuses_by text open_group k.OpenParenthesis (condition m ∷ blanks ∷ ws) q opening_alone refl i in (r.0, first_of text (inner (suc m) ∷ ws) k.Question ts q e ∙ r.1)

group_opened : (text : List ℕ) (n : ℕ) (ws : List Want) (ts o : Lexemes) → eat k.OpenParenthesis ts ≡ Some o → stop text (part n ∷ ws) ts ≡ deeper_stop text (blanks ∷ tail n ∷ ws) n ts o
group_opened text n ws ts o e = grind arith

no_word_there : (text : List ℕ) (ws : List Want) (ts : Lexemes) → take_token k.Key ts ≡ None → take_token k.Asterisk ts ≡ None → stop text (word ∷ ws) ts ≡ Some ts
no_word_there text ws ts h i = grind arith

no_step_there : (text : List ℕ) (n : ℕ) (ws : List Want) (ts : Lexemes) → take_token k.Dot ts ≡ None → take_token k.OpenArray ts ≡ None → stop text (step n ∷ ws) ts ≡ Some ts
no_step_there text n ws ts h i = grind arith

module _ (text : List ℕ) (n : ℕ) (deeper : Lexemes → Read Condition) (deep : Deep text n deeper) where
  follows_inner : (ts : Lexemes) → Follows text (inner n ∷ []) [] (d.inner_at text deeper ts) ts
  unfolding d.inner_at
  follows_inner ts =
      follows_choose text (eat k.Question ts) _ _ (inner n ∷ []) [] ts
      (λ q e. follows_bind text (eat k.OpenParenthesis q) _ (inner n ∷ []) [] ts
      (λ o i. follows_then text (deeper o) _ (inner n ∷ []) (blanks ∷ []) [] ts (follows_deeper text n deeper deep (inner n ∷ []) (blanks ∷ []) ts o (λ ws. filter_opened text n ws ts q o e i))
      (λ c h ws. past_blanks text ws c.1))
      (λ i ws. filter_unopened text n ws ts q e (not_eaten k.OpenParenthesis q i)))
      (λ e. follows_by text _ (inner n ∷ []) (plain ∷ []) [] ts ts (λ ws. no_question text ws n ts (not_eaten k.Question ts e)) (follows_map text (d.plain_at text ts) tree.plain (plain ∷ []) [] ts (follows_plain text ts)))

  follows_array : (leaves : Bool) (ts : Lexemes) → Follows text (inner n ∷ close ∷ []) [] (d.array_at text deeper leaves ts) ts
  unfolding d.array_at
  follows_array leaves ts =
      follows_then text (d.inner_at text deeper ts) _ (inner n ∷ close ∷ []) (close ∷ []) [] ts (follows_more text (d.inner_at text deeper ts) (inner n ∷ []) [] (close ∷ []) ts (follows_inner ts))
      (λ i h. follows_bind text (eat k.CloseArray i.1) _ (close ∷ []) [] i.1 (λ e j ws. first_of text (close ∷ ws) k.CloseArray i.1 e j)
      (λ j ws. refuses_by text close k.CloseArray ws i.1 close_alone refl (not_eaten k.CloseArray i.1 j)))

  follows_word_step : (leaves : Bool) (ts : Lexemes) → Follows text (word ∷ []) [] (d.word_step text deeper leaves ts) ts
  follows_word_step leaves ts =
      follows_map text (d.step_word_at text ts) (λ w. (leaves, false, tree.plain w)) (word ∷ []) [] ts
      (follows_choose text (take_token k.Key ts) _ _ (word ∷ []) [] ts (λ w e ws. first_taken text (word ∷ ws) k.Key ts w e)
      (λ e. follows_bind text (eat k.Asterisk ts) _ (word ∷ []) [] ts (λ a i ws. first_of text (word ∷ ws) k.Asterisk ts a i) (λ i ws. (ts, no_word_there text ws ts e (not_eaten k.Asterisk ts i)))))

  follows_after_dots : (ts : Lexemes) → Follows text (after_dots n ∷ []) [] (d.after_dots text deeper ts) ts
  follows_after_dots ts =
      follows_choose text (eat k.OpenArray ts) _ _ (after_dots n ∷ []) [] ts
      (λ o e. follows_by text (d.array_at text deeper true (skip o)) (after_dots n ∷ []) (inner n ∷ close ∷ []) [] ts (skip o)
      (λ ws. first_of text (after_dots n ∷ ws) k.OpenArray ts o e ∙ past_blanks text (inner n ∷ close ∷ ws) o) (follows_array true (skip o)))
      (λ e. follows_by text (d.word_step text deeper true ts) (after_dots n ∷ []) (word ∷ []) [] ts ts (λ ws. dots_word text ws n ts (not_eaten k.OpenArray ts e)) (follows_word_step true ts))

  follows_after_dot : (ts : Lexemes) → Follows text (after_dot n ∷ []) [] (d.after_dot text deeper ts) ts
  follows_after_dot ts =
      follows_choose text (eat k.Dot ts) _ _ (after_dot n ∷ []) [] ts
      (λ c e. follows_by text (d.after_dots text deeper c) (after_dot n ∷ []) (after_dots n ∷ []) [] ts c (λ ws. first_of text (after_dot n ∷ ws) k.Dot ts c e) (follows_after_dots c))
      (λ e. follows_choose text (eat k.OpenArray ts) _ _ (after_dot n ∷ []) [] ts
      (λ o i. follows_by text (d.array_at text deeper false o) (after_dot n ∷ []) (inner n ∷ close ∷ []) [] ts o (λ ws. first_of text (after_dot n ∷ ws) k.OpenArray ts o i) (follows_array false o))
      (λ i. follows_by text (d.word_step text deeper false ts) (after_dot n ∷ []) (word ∷ []) [] ts ts (λ ws. dot_word text ws n ts (not_eaten k.Dot ts e) (not_eaten k.OpenArray ts i)) (follows_word_step false ts)))

  follows_one_step : (ts : Lexemes) → Follows text (step n ∷ []) [] (d.step_at text deeper ts) ts
  unfolding d.step_at
  follows_one_step ts =
      follows_choose text (eat k.OpenArray ts) _ _ (step n ∷ []) [] ts
      (λ o e. follows_by text (d.array_at text deeper false (skip o)) (step n ∷ []) (inner n ∷ close ∷ []) [] ts (skip o)
      (λ ws. first_of text (step n ∷ ws) k.OpenArray ts o e ∙ past_blanks text (inner n ∷ close ∷ ws) o) (follows_array false (skip o)))
      (λ e. follows_bind text (eat k.Dot ts) _ (step n ∷ []) [] ts
      (λ c i. follows_by text (d.after_dot text deeper c) (step n ∷ []) (after_dot n ∷ []) [] ts c (λ ws. first_of text (step n ∷ ws) k.Dot ts c i) (follows_after_dot c))
      (λ i ws. (ts, no_step_there text n ws ts (not_eaten k.Dot ts i) (not_eaten k.OpenArray ts e))))

  module _ (shorter : (ts : Lexemes) (s : (Bool × Bool × Inner) × Lexemes) → d.step_at text deeper ts ≡ Some s → length s.1 < length ts) where
    more_steps : (fuel : ℕ) (ts : Lexemes) (b : Bool) → begins_step text deeper ts ≡ b
        → ((s : (Bool × Bool × Inner) × Lexemes) → d.step_at text deeper ts ≡ Some s → Follows text (steps n ∷ []) [] (d.steps_from text deeper fuel s.1) s.1)
        → Follows text (steps n ∷ []) [] (if b then (d.step_at text deeper ts >>= λ s. d.steps_from text deeper fuel s.1 >>= λ ss. Some (tree.step_then s.0.0 s.0.1 s.0.2 ss.0, ss.1)) else Some (tree.no_steps, ts)) ts
    more_steps fuel ts true e more =
        follows_by text _ (steps n ∷ []) (step n ∷ steps n ∷ []) [] ts ts (λ ws. step_next text ws n ts e)
        (follows_then text (d.step_at text deeper ts) _ (step n ∷ steps n ∷ []) (steps n ∷ []) [] ts (follows_more text (d.step_at text deeper ts) (step n ∷ []) [] (steps n ∷ []) ts (follows_one_step ts))
        (λ s h. follows_map text (d.steps_from text deeper fuel s.1) (tree.step_then s.0.0 s.0.1 s.0.2) (steps n ∷ []) [] s.1 (more s h)))
    more_steps fuel ts false e more = λ ws. no_step_next text ws n ts e

    follows_steps_from : (fuel : ℕ) (ts : Lexemes) → length ts < fuel → Follows text (steps n ∷ []) [] (d.steps_from text deeper fuel ts) ts
    follows_steps_from zero ts less = absurd (omega arith)
    follows_steps_from (suc fuel) ts less =
        more_steps fuel ts (begins_step text deeper ts) refl (λ s h. let falls = shorter ts s h in follows_steps_from fuel s.1 (omega arith))

    pub follows_steps : (ts : Lexemes) → Follows text (steps n ∷ []) [] (d.steps_at text deeper ts) ts
    unfolding d.steps_at
    follows_steps ts = follows_steps_from (suc (length ts)) ts (omega arith)

    follows_term : (ts : Lexemes) → Follows text (term n ∷ []) [] (d.term_at text deeper ts) ts
    unfolding d.term_at
    follows_term ts =
        follows_choose text (eat k.At ts) _ _ (term n ∷ []) [] ts
        (λ a e. follows_by text _ (term n ∷ []) (steps n ∷ []) [] ts a (λ ws. first_of text (term n ∷ ws) k.At ts a e)
        (follows_map text (d.steps_at text deeper a) (λ ss. tree.at_path (tree.path false ss)) (steps n ∷ []) [] a (follows_steps a)))
        (λ e. follows_choose text (eat k.Absolute ts) _ _ (term n ∷ []) [] ts
        (λ a i. follows_by text _ (term n ∷ []) (steps n ∷ []) [] ts a (λ ws. first_of text (term n ∷ ws) k.Absolute ts a i)
        (follows_map text (d.steps_at text deeper a) (λ ss. tree.at_path (tree.path true ss)) (steps n ∷ []) [] a (follows_steps a)))
        (λ i. follows_by text _ (term n ∷ []) (literal ∷ []) [] ts ts (λ ws. no_path text ws n ts (not_eaten k.At ts e) (not_eaten k.Absolute ts i))
        (follows_map text (d.literal_at text ts) tree.literal (literal ∷ []) [] ts (follows_literal text ts))))

    -- the right side of a comparison, and what is wanted behind it
    follows_right : (us : List Want) (left : Term) (o : FilterToken × Lexemes) → Follows text (blanks ∷ term n ∷ us) us (d.rest_of_comparison text deeper left o) o.1
    follows_right us left o =
        follows_by text _ (blanks ∷ term n ∷ us) (term n ∷ us) us o.1 (skip o.1) (λ ws. past_blanks text (term n ∷ us ++ ws) o.1)
        (follows_map text (d.term_at text deeper (skip o.1)) (tree.compare left o.0) (term n ∷ us) us (skip o.1) (follows_more text (d.term_at text deeper (skip o.1)) (term n ∷ []) [] us (skip o.1) (follows_term (skip o.1))))

    follows_candidate : (ts : Lexemes) → Follows text (steps n ∷ candidate_tail n ∷ []) (blanks ∷ tail n ∷ []) (d.candidate_condition_at text deeper ts) ts
    follows_candidate ts =
        follows_then text (d.steps_at text deeper ts) _ (steps n ∷ candidate_tail n ∷ []) (candidate_tail n ∷ []) (blanks ∷ tail n ∷ []) ts
        (follows_more text (d.steps_at text deeper ts) (steps n ∷ []) [] (candidate_tail n ∷ []) ts (follows_steps ts))
        (λ ss h. follows_choose text (by_kind comparison (skip ss.1)) _ _ (candidate_tail n ∷ []) (blanks ∷ tail n ∷ []) ss.1
        (λ o e. follows_by text _ (candidate_tail n ∷ []) (side_behind_sign n) (blanks ∷ tail n ∷ []) ss.1 o.1 (λ ws. compared_next text ws n ss.1 o.1 o.0 e)
        (follows_right (blanks ∷ tail n ∷ []) (tree.at_path (tree.path false ss.0)) o))
        (λ e ws. alone_next text ws n ss.1 e))

    follows_comparison : (ts : Lexemes) → Follows text (term n ∷ blanks ∷ sign ∷ side_behind_sign n) (blanks ∷ tail n ∷ []) (d.comparison_at text deeper ts) ts
    follows_comparison ts =
        follows_then text (d.term_at text deeper ts) _ (term n ∷ blanks ∷ sign ∷ side_behind_sign n) (blanks ∷ sign ∷ side_behind_sign n) (blanks ∷ tail n ∷ []) ts
        (follows_more text (d.term_at text deeper ts) (term n ∷ []) [] (blanks ∷ sign ∷ side_behind_sign n) ts (follows_term ts))
        (λ left h. follows_bind text (by_kind comparison (skip left.1)) _ (blanks ∷ sign ∷ side_behind_sign n) (blanks ∷ tail n ∷ []) left.1
        (λ o e. follows_by text _ (blanks ∷ sign ∷ side_behind_sign n) (side_behind_sign n) (blanks ∷ tail n ∷ []) left.1 o.1 (λ ws. sign_next text (side_behind_sign n ++ ws) left.1 o.1 o.0 e)
        (follows_right (blanks ∷ tail n ∷ []) left.0 o))
        (λ e ws. (skip left.1, no_sign_next text (side_behind_sign n ++ ws) left.1 e)))

    follows_part : (ts : Lexemes) → Follows text (part n ∷ []) (blanks ∷ tail n ∷ []) (d.part_at text deeper ts) ts
    unfolding d.part_at
    follows_part ts =
        follows_choose text (eat k.OpenParenthesis ts) _ _ (part n ∷ []) (blanks ∷ tail n ∷ []) ts
        (λ o e. follows_deeper text n deeper deep (part n ∷ []) (blanks ∷ tail n ∷ []) ts o (λ ws. group_opened text n ws ts o e))
        (λ e. follows_choose text (eat k.At ts) _ _ (part n ∷ []) (blanks ∷ tail n ∷ []) ts
        (λ a i. follows_by text (d.candidate_condition_at text deeper a) (part n ∷ []) (steps n ∷ candidate_tail n ∷ []) (blanks ∷ tail n ∷ []) ts a (λ ws. first_of text (part n ∷ ws) k.At ts a i) (follows_candidate a))
        (λ i. follows_by text (d.comparison_at text deeper ts) (part n ∷ []) (term n ∷ blanks ∷ sign ∷ side_behind_sign n) (blanks ∷ tail n ∷ []) ts ts
        (λ ws. no_group text ws n ts (not_eaten k.OpenParenthesis ts e) (not_eaten k.At ts i)) (follows_comparison ts)))

    follows_condition_by : (ts : Lexemes) → Follows text (condition n ∷ []) [] (d.condition_by text deeper ts) ts
    unfolding d.condition_by
    follows_condition_by ts =
        follows_by text _ (condition n ∷ []) (part n ∷ []) [] ts (skip ts) (λ ws. condition_past_blanks text ws n ts)
        (follows_then text (d.part_at text deeper (skip ts)) _ (part n ∷ []) (blanks ∷ tail n ∷ []) [] (skip ts) (follows_part (skip ts))
        (λ p h. follows_by text _ (blanks ∷ tail n ∷ []) (tail n ∷ []) [] p.1 (skip p.1) (λ ws. past_blanks text (tail n ∷ ws) p.1)
        (follows_choose text (eat k.CloseParenthesis (skip p.1)) _ _ (tail n ∷ []) [] (skip p.1) (λ e i ws. first_of text (tail n ∷ ws) k.CloseParenthesis (skip p.1) e i)
        (λ i. follows_bind text (by_kind connective (skip p.1)) _ (tail n ∷ []) [] (skip p.1)
        (λ o j. follows_map text (deeper o.1) (tree.join o.0 p.0) (tail n ∷ []) [] (skip p.1)
        (follows_deeper text n deeper deep (tail n ∷ []) [] (skip p.1) o.1 (λ ws. tail_deeper text ws n (skip p.1) o.1 o.0 j)))
        (λ j ws. (skip p.1, tail_refused text ws n (skip p.1) (not_eaten k.CloseParenthesis (skip p.1) i) j))))))

    -- the whole is a path, and the machine ends, or neither
    whole_follows : (ts : Lexemes) → EndsWith (eat k.Absolute ts >>= λ r. d.steps_at text deeper r >>= λ ss. d.if_end text ss.0 (skip ss.1)) (stop text (dollar ∷ steps n ∷ blanks ∷ []) ts)
    whole_follows ts = by_root (eat k.Absolute ts) refl
      where
        by_end : (ss : PathSteps) (rest : Lexemes) → stop text (dollar ∷ steps n ∷ blanks ∷ []) ts ≡ stop text [] rest → EndsWith (d.if_end text ss rest) (stop text (dollar ∷ steps n ∷ blanks ∷ []) ts)
        by_end ss rest e = grind arith

        by_steps : (r : Lexemes) (o : Read PathSteps) → eat k.Absolute ts ≡ Some r → Follows text (steps n ∷ []) [] o r → EndsWith (o >>= λ ss. d.if_end text ss.0 (skip ss.1)) (stop text (dollar ∷ steps n ∷ blanks ∷ []) ts)
        by_steps r None e h = let x = h (blanks ∷ []) in (x.0, first_of text (dollar ∷ steps n ∷ blanks ∷ []) k.Absolute ts r e ∙ x.1)
        by_steps r (Some ss) e h = by_end ss.0 (skip ss.1) (first_of text (dollar ∷ steps n ∷ blanks ∷ []) k.Absolute ts r e ∙ (h (blanks ∷ []) ∙ past_blanks text [] ss.1))

        by_root : (o : Option Lexemes) → eat k.Absolute ts ≡ o → EndsWith (o >>= λ r. d.steps_at text deeper r >>= λ ss. d.if_end text ss.0 (skip ss.1)) (stop text (dollar ∷ steps n ∷ blanks ∷ []) ts)
        by_root None e = refuses_by text dollar k.Absolute (steps n ∷ blanks ∷ []) ts dollar_alone refl (not_eaten k.Absolute ts e)
        by_root (Some r) e = by_steps r (d.steps_at text deeper r) e (follows_steps r)

follows_condition : (text : List ℕ) (n : ℕ) → Deep text n (d.condition_at text n)
follows_condition text zero = λ ts. refl
follows_condition text (suc m) = λ ts. follows_condition_by text m (d.condition_at text m) (follows_condition text m) (falls text m) ts

path_follows : (text : List ℕ) (ts : Lexemes) → EndsWith (d.path_at text ts) (stop text whole_wants ts)
unfolding d.path_at
path_follows text ts = whole_follows text levels (d.condition_at text levels) (follows_condition text levels) (falls text levels) ts

-- the machine ends where tokens are read as a path
pub read_ends : (text : List ℕ) (ts : Lexemes) (p : Path) → d.path_at text ts ≡ Some p → stop text whole_wants ts ≡ None
read_ends text ts p h = subst (λ o. EndsWith o (stop text whole_wants ts)) h (path_follows text ts)

-- and where it ends, they are
pub ends_read : (text : List ℕ) (ts : Lexemes) → stop text whole_wants ts ≡ None → (p : Path) × (d.path_at text ts ≡ Some p)
ends_read text ts h = by_read (d.path_at text ts) (path_follows text ts)
  where
    by_read : (o : Option Path) → EndsWith o (stop text whole_wants ts) → (p : Path) × (o ≡ Some p)
    by_read o e = grind arith
