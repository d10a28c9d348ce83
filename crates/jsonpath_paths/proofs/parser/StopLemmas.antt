-- Where the tokens stop, a want at a time.
use Rattle.std.proofs.Common.{◌≡◌, ℕ, Bool, true, false, List, [], ◌∷◌, ◌++◌, Option, Some, None, Result, Ok, Err, refl, sym, ◌∙◌, ap, subst, append_assoc, arith}
use Rattle.std.specs.Prelude.{IsTrue, ◌↔◌, is_some, option_map, IfNone, MatchResult}
use Rattle.jsonpath_paths.specs.Grammar.{Lexemes, comparison, connective}
use Rattle.jsonpath_paths.specs.declared.text.str_reader.StrRange.{StrRange}
use Rattle.jsonpath_paths.specs.declared.token.tokens.FilterToken.{FilterToken}
use Rattle.jsonpath_paths.specs.declared.token.tokens.Kind.{Kind}
use Rattle.jsonpath_paths.specs.declared.token.tokens.Kind.TheVariants as k
use Rattle.jsonpath_paths.specs.declared.parser.tree_parser.Refusal.{Refusal}
use Rattle.jsonpath_paths.specs.declared.parser.tree_parser.Refusal.TheVariants as fault
use Rattle.jsonpath_paths.specs.plan.ParsedParts.{Read, take_token, by_kind, skip, begins_step}
use Rattle.jsonpath_paths.specs.plan.TokensLeft.{TokensLeft}
use Rattle.jsonpath_paths.specs.plan.Wants.{Want, stop, condition, part, word, after_dot, after_dots, StopsErr, StopsBefore, steps, step, inner, plain, indexes_range_or_names, range_or_names, quoted, after_name, term, literal, blanks, sign, candidate_tail, behind_blank, tail, side_behind_sign}
use Rattle.jsonpath_paths.proofs.parser.LevelLemmas.{not_taken, if_none}

-- what is read from what is left stops where all does, where the machine does the same there
pub stops_by : {A : Type 0} (r : Result A Refusal) (vs us xs : List Want) (old mid new : TokensLeft)
    → ((ws : List Want) → stop old.text (vs ++ ws) old.lexemes ≡ stop mid.text (us ++ ws) mid.lexemes) → mid.text ≡ old.text → StopsBefore us xs r mid new → StopsBefore vs xs r old new
stops_by r vs us xs old mid new e t h = grind arith

-- the same of a fault, whatever would have been read
pub stops_err : (f : Refusal) (vs us xs : List Want) (old mid new : TokensLeft)
    → ((ws : List Want) → stop old.text (vs ++ ws) old.lexemes ≡ stop mid.text (us ++ (xs ++ ws)) mid.lexemes) → StopsErr us f mid new → StopsErr vs f old new
stops_err f vs us xs old mid new e h = grind arith

pub stops_result : {A : Type 0} (r : Result A Refusal) (f : Refusal) (vs ys : List Want) (old new : TokensLeft) → r ≡ Err f → StopsErr vs f old new → StopsBefore vs ys r old new
stops_result {A = A} r f vs ys old new is h = subst (λ (z : Result A Refusal). StopsBefore vs ys z old new) (sym is) h

-- the same with more wanted behind it
pub stops_more : {A : Type 0} (r : Result A Refusal) (vs us xs : List Want) (old new : TokensLeft) → StopsBefore vs us r old new → StopsBefore (vs ++ xs) (us ++ xs) r old new
stops_more (Ok x) vs us xs old new h =
    λ ws. ap (λ l. stop old.text l old.lexemes) (append_assoc vs xs ws) ∙ (h (xs ++ ws) ∙ sym (ap (λ l. stop old.text l new.lexemes) (append_assoc us xs ws)))
stops_more (Err fault.Refused) vs us xs old new h = λ ws. ap (λ l. stop old.text l old.lexemes) (append_assoc vs xs ws) ∙ h (xs ++ ws)
stops_more (Err fault.OutOfMemory) vs us xs old new h = tt

-- what is put on the heap stops nowhere
pub stops_boxed : {A : Type 0} (r : Result A Refusal) (P : A → Type 0) (vs us : List Want) (old new : TokensLeft) → MatchResult r P (λ e. e ≡ fault.OutOfMemory)
    → ((ws : List Want) → stop old.text (vs ++ ws) old.lexemes ≡ stop old.text (us ++ ws) new.lexemes) → StopsBefore vs us r old new
stops_boxed r P vs us old new h e = grind arith

-- the same where a token of one kind was not next
pub stops_past : {A : Type 0} (r : Result A Refusal) (kind : Kind) (found : Option StrRange) (vs us xs : List Want) (old mid new : TokensLeft)
    → option_map (λ s. (s, mid.lexemes)) found ≡ take_token kind old.lexemes → IfNone found (mid.lexemes ≡ old.lexemes) → mid.text ≡ old.text → is_some found ≡ false
    → ((ws : List Want) (ts : Lexemes) → take_token kind ts ≡ None → stop old.text (vs ++ ws) ts ≡ stop old.text (us ++ ws) ts) → StopsBefore us xs r mid new → StopsBefore vs xs r old new
stops_past r kind found vs us xs old mid new value none same e alike h =
    let missed = not_taken found mid.lexemes _ value e in
    stops_by r vs us xs old mid new
    (λ ws. alike ws old.lexemes missed ∙ (ap (stop old.text (us ++ ws)) (sym (if_none found _ none e)) ∙ ap (λ x. stop x (us ++ ws) mid.lexemes) (sym same))) same h

-- nothing is wanted, and tokens are left
pub more_left : (b : Bool) (text : List ℕ) (ts : Lexemes) → (IsTrue b ↔ (ts ≡ [])) → b ≡ false → stop text [] ts ≡ Some ts
more_left true text ts h e = cc e
more_left false text [] h e = cc (h.1 refl)
more_left false text (p ∷ ps) h e = refl

module _ (text : List ℕ) (ws : List Want) where
  pub no_star : (ts : Lexemes) → take_token k.Asterisk ts ≡ None → stop text (plain ∷ ws) ts ≡ stop text (indexes_range_or_names ∷ ws) ts
  no_star ts h = grind arith

  pub no_word : (ts : Lexemes) → take_token k.Key ts ≡ None → stop text (indexes_range_or_names ∷ ws) ts ≡ stop text (range_or_names ∷ ws) ts
  no_word ts h = grind arith

  pub no_colon : (ts : Lexemes) → take_token k.Split ts ≡ None → stop text (range_or_names ∷ ws) ts ≡ stop text (quoted ∷ after_name ∷ ws) ts
  no_colon ts h = grind arith

  pub no_question : (n : ℕ) (ts : Lexemes) → take_token k.Question ts ≡ None → stop text (inner n ∷ ws) ts ≡ stop text (plain ∷ ws) ts
  no_question n ts h = grind arith

  pub no_path : (n : ℕ) (ts : Lexemes) → take_token k.At ts ≡ None → take_token k.Absolute ts ≡ None → stop text (term n ∷ ws) ts ≡ stop text (literal ∷ ws) ts
  no_path n ts h i = grind arith

  pub no_word_literal : (ts : Lexemes) → take_token k.Key ts ≡ None → stop text (literal ∷ ws) ts ≡ stop text (quoted ∷ ws) ts
  no_word_literal ts h = grind arith

  pub dot_word : (n : ℕ) (ts : Lexemes) → take_token k.Dot ts ≡ None → take_token k.OpenArray ts ≡ None → stop text (after_dot n ∷ ws) ts ≡ stop text (word ∷ ws) ts
  dot_word n ts h i = grind arith

  pub dots_word : (n : ℕ) (ts : Lexemes) → take_token k.OpenArray ts ≡ None → stop text (after_dots n ∷ ws) ts ≡ stop text (word ∷ ws) ts
  dots_word n ts h = grind arith

  -- behind a dot, and perhaps a second one, with no bracket next
  pub word_behind_dots : (n : ℕ) (ts us : Lexemes) (found : Option StrRange) → option_map (λ s. (s, us)) found ≡ take_token k.Dot ts → IfNone found (us ≡ ts) → take_token k.OpenArray us ≡ None
      → stop text (after_dot n ∷ ws) ts ≡ stop text (word ∷ ws) us
  word_behind_dots n ts us found h e i = grind arith

  -- a term that is compared: no condition in parentheses, and no path from the candidate
  pub no_group : (n : ℕ) (ts : Lexemes) → take_token k.OpenParenthesis ts ≡ None → take_token k.At ts ≡ None → stop text (part n ∷ ws) ts ≡ stop text (term n ∷ blanks ∷ sign ∷ side_behind_sign n ++ ws) ts
  no_group n ts h i = grind arith

  -- steps go on where a dot or a bracket is next
  pub step_next : (n : ℕ) (ts : Lexemes) → begins_step text (λ _. None) ts ≡ true → stop text (steps n ∷ ws) ts ≡ stop text (step n ∷ steps n ∷ ws) ts
  step_next n ts h = grind arith

  pub no_step_next : (n : ℕ) (ts : Lexemes) → begins_step text (λ _. None) ts ≡ false → stop text (steps n ∷ ws) ts ≡ stop text ws ts
  no_step_next n ts h = grind arith

  pub past_blanks : (ts : Lexemes) → stop text (blanks ∷ ws) ts ≡ stop text ws (skip ts)
  unfolding skip
  past_blanks ts = grind arith

module _ (text : List ℕ) (ws : List Want) where
  sign_here : (ts us : Lexemes) (o : FilterToken) → by_kind comparison ts ≡ Some (o, us) → stop text (sign ∷ ws) ts ≡ stop text ws us
  sign_here ts us o h = grind arith

  no_sign_here : (ts : Lexemes) → by_kind comparison ts ≡ None → stop text (sign ∷ ws) ts ≡ Some ts
  no_sign_here ts h = grind arith

  -- a sign of comparison behind blanks, or none
  pub sign_next : (ts us : Lexemes) (o : FilterToken) → by_kind comparison (skip ts) ≡ Some (o, us) → stop text (blanks ∷ sign ∷ ws) ts ≡ stop text ws us
  sign_next ts us o h = past_blanks text (sign ∷ ws) ts ∙ sign_here (skip ts) us o h

  pub no_sign_next : (ts : Lexemes) → by_kind comparison (skip ts) ≡ None → stop text (blanks ∷ sign ∷ ws) ts ≡ Some (skip ts)
  no_sign_next ts h = past_blanks text (sign ∷ ws) ts ∙ no_sign_here (skip ts) h

  module _ (n : ℕ) where
    tail_past_blanks : (ts : Lexemes) → stop text (candidate_tail n ∷ ws) ts ≡ stop text (behind_blank n ∷ ws) (skip ts)
    unfolding skip
    tail_past_blanks ts = grind arith

    compared_here : (ts us : Lexemes) (o : FilterToken) → by_kind comparison ts ≡ Some (o, us) → stop text (behind_blank n ∷ ws) ts ≡ stop text (side_behind_sign n ++ ws) us
    compared_here ts us o h = grind arith

    alone_here : (ts : Lexemes) → by_kind comparison ts ≡ None → stop text (behind_blank n ∷ ws) ts ≡ stop text (tail n ∷ ws) ts
    alone_here ts h = grind arith

    -- behind a path from the candidate: a comparison, or what follows a condition
    pub compared_next : (ts us : Lexemes) (o : FilterToken) → by_kind comparison (skip ts) ≡ Some (o, us) → stop text (candidate_tail n ∷ ws) ts ≡ stop text (side_behind_sign n ++ ws) us
    compared_next ts us o h = tail_past_blanks ts ∙ compared_here (skip ts) us o h

    pub alone_next : (ts : Lexemes) → by_kind comparison (skip ts) ≡ None → stop text (candidate_tail n ∷ ws) ts ≡ stop text (blanks ∷ tail n ∷ ws) ts
    alone_next ts h = tail_past_blanks ts ∙ (alone_here (skip ts) h ∙ sym (past_blanks text (tail n ∷ ws) ts))

    pub condition_past_blanks : (ts : Lexemes) → stop text (condition n ∷ ws) ts ≡ stop text (part n ∷ ws) (skip ts)
    unfolding skip
    condition_past_blanks ts = grind arith

    -- behind a condition's first part: nothing, or a connective
    pub tail_refused : (ts : Lexemes) → take_token k.CloseParenthesis ts ≡ None → by_kind connective ts ≡ None → stop text (tail n ∷ ws) ts ≡ Some ts
    tail_refused ts h i = grind arith

pub missed : {A : Type 0} (r : Option A) (new : Lexemes) (read : Read A) → option_map (λ s. (s, new)) r ≡ read → r ≡ None → read ≡ None
missed r new read h e = sym h ∙ ap (option_map (λ s. (s, new))) e
