-- What is found at the front is a token of its kind.
use Rattle.std.proofs.Common.{◌≡◌, ◌<◌, ℕ, suc, ◌+◌, Bool, true, false, not, List, [], ◌∷◌, ◌++◌, length, Option, Some, None, ◌∙◌, ap, subst, refl, take, cond, arith, inl, inr}
use Rattle.std.specs.Prelude.{option_map, ◌==◌, ◌&&◌, ◌⊎◌, IfSome}
use Rattle.std.specs.Char.{is_whitespace}
use Rattle.std.specs.List.{prefix_len}
use Rattle.std.proofs.lemmas.Bool.{and_from, cond_both, eqb-false, or_from}
use Rattle.jsonpath_paths.specs.text.Characters.{dollar, backslash, is_no_stop, goes_on}
use Rattle.jsonpath_paths.specs.token.Reading.{closing, quoted_lexeme, dollar_word, two_characters, optional_equals, blanks_or_word, several_character_lexeme, lexeme_beginning_with, first}
use Rattle.jsonpath_paths.specs.token.Kinds.{all_pass, closed, is_quoted, is_blank, dollar_goes_on, begins_none, ends_word, is_word, is_token, IsFirst, HasNone}
use Rattle.jsonpath_paths.specs.declared.token.tokens.Kind.{Kind}
use Rattle.jsonpath_paths.specs.declared.token.tokens.Kind.TheVariants as k
use Rattle.std.proofs.lemmas.List.Folds.{length-prefix_len}
use Rattle.jsonpath_paths.proofs.text.RunLemmas.{one_more}
use Rattle.jsonpath_paths.proofs.token.LongestLemmas.{first_longest, first_has_none, word_first}
use Rattle.jsonpath_paths.proofs.token.FrontLemmas.{front_within, Within}

abbrev Found : Option (Kind × ℕ) → List ℕ → Type 0
Found o cs = IfSome o (λ f. is_token f.0 (take f.1 cs) ≡ true)

taken_pass : (test : ℕ → Bool) (cs : List ℕ) → all_pass test (take (prefix_len test cs) cs) ≡ true
taken_pass test [] = refl
taken_pass test (c ∷ cs) = by_test (test c) refl (taken_pass test cs)
  where
    by_test : (b : Bool) → test c ≡ b → all_pass test (take (prefix_len test cs) cs) ≡ true → all_pass test (take (cond b (1 + prefix_len test cs) 0) (c ∷ cs)) ≡ true
    by_test b e h = grind arith

dollar_pass : (xs : List ℕ) → 0 < length xs → all_pass is_no_stop xs ≡ true → dollar_goes_on xs ≡ true
dollar_pass xs h a = grind arith

counted : (k : ℕ) (o : Option ℕ) (n : ℕ) → option_map (λ m. k + m) o ≡ Some n → (m : ℕ) × (o ≡ Some m) × (k + m ≡ n)
counted k o n h = grind arith

pub closing_closed : (quote n : ℕ) (cs : List ℕ) → closing quote cs ≡ Some n → closed quote (take n cs) ≡ true
closing_closed quote n [] h = cc
closing_closed quote n (c ∷ []) h = grind arith
closing_closed quote n (c ∷ d ∷ cs) h =
    by_test (c == quote) (c == backslash) refl refl h (λ m. closing_closed quote m cs) (λ m. closing_closed quote m (d ∷ cs))
  where
    step : (m : ℕ) → (c == quote) ≡ false → (c == backslash) ≡ false → closed quote (take m (d ∷ cs)) ≡ true → closed quote (c ∷ take m (d ∷ cs)) ≡ true
    step m q s h = grind arith

    by_test : (b e : Bool) → (c == quote) ≡ b → (c == backslash) ≡ e → cond b (Some 1) (cond e (option_map (λ n. 2 + n) (closing quote cs)) (option_map (λ n. 1 + n) (closing quote (d ∷ cs)))) ≡ Some n
        → ((m : ℕ) → closing quote cs ≡ Some m → closed quote (take m cs) ≡ true) → ((m : ℕ) → closing quote (d ∷ cs) ≡ Some m → closed quote (take m (d ∷ cs)) ≡ true)
        → closed quote (take n (c ∷ d ∷ cs)) ≡ true
    by_test true e q s h f g = let one : 1 ≡ n = cc in subst (λ m. closed quote (take m (c ∷ d ∷ cs)) ≡ true) one q
    by_test false true q s h f g =
        let m = counted 2 (closing quote cs) n h in
        let two : suc (suc m.0) ≡ n = omega (arith, m.2) in
        subst (λ x. closed quote (take x (c ∷ d ∷ cs)) ≡ true) two
        (ap (λ b. cond b false (cond (c == backslash) (closed quote (take m.0 cs)) (closed quote (d ∷ take m.0 cs)))) q
        ∙ (ap (λ b. cond b (closed quote (take m.0 cs)) (closed quote (d ∷ take m.0 cs))) s ∙ f m.0 m.1))
    by_test false false q s h f g =
        let m = counted 1 (closing quote (d ∷ cs)) n h in
        let one : suc m.0 ≡ n = omega (arith, m.2) in
        subst (λ x. closed quote (take x (c ∷ d ∷ cs)) ≡ true) one (step m.0 q s (g m.0 m.1))

dollar_found : (c : ℕ) (cs : List ℕ) → (c == 36) ≡ true → Found (dollar_word cs) (c ∷ cs)
dollar_found c cs h = by_count (prefix_len is_no_stop cs == 0) refl
  where
    by_count : (b : Bool) → (prefix_len is_no_stop cs == 0) ≡ b → Found (Some (cond b (k.Absolute, 1) (k.Key, 1 + prefix_len is_no_stop cs))) (c ∷ cs)
    by_count true e = and_from (c == 36) true h refl
    by_count false e =
        let some : 0 < length (take (prefix_len is_no_stop cs) cs) = omega (arith, length-prefix_len is_no_stop cs, eqb-false (prefix_len is_no_stop cs) 0 e) in
        ap (λ n. is_word (take n (c ∷ cs))) (one_more (prefix_len is_no_stop cs))
        ∙ (ap (λ b. cond b (dollar_goes_on (take (prefix_len is_no_stop cs) cs)) (not (begins_none c) && all_pass goes_on (take (prefix_len is_no_stop cs) cs))) h
        ∙ dollar_pass (take (prefix_len is_no_stop cs) cs) some (taken_pass is_no_stop cs))

quoted_found : (kind : Kind) (quote c : ℕ) (cs : List ℕ) → ((xs : List ℕ) → is_token kind xs ≡ is_quoted quote xs) → (c == quote) ≡ true → Found (quoted_lexeme kind quote cs) (c ∷ cs)
quoted_found kind quote c cs same h = by_count (closing quote cs) refl
  where
    by_count : (o : Option ℕ) → closing quote cs ≡ o → Found (option_map (λ n. (kind, 1 + n)) o) (c ∷ cs)
    by_count None e = tt
    by_count (Some n) e =
        same (take (1 + n) (c ∷ cs)) ∙ (ap (λ m. is_quoted quote (take m (c ∷ cs))) (one_more n) ∙ and_from (c == quote) (closed quote (take n cs)) h (closing_closed quote n cs e))

doubled_found : (kind : Kind) (lit second c : ℕ) (cs : List ℕ) → ((a b : ℕ) → is_token kind (a ∷ b ∷ []) ≡ (a == lit && (b == second && true))) → (c == lit) ≡ true → Found (two_characters kind second cs) (c ∷ cs)
doubled_found kind lit second c cs same h = grind arith

or_equal_found : (alone with_equal : Kind) (lit c : ℕ) (cs : List ℕ) → ((a : ℕ) → is_token alone (a ∷ []) ≡ (a == lit && true)) → ((a b : ℕ) → is_token with_equal (a ∷ b ∷ []) ≡ (a == lit && (b == 61 && true)))
    → (c == lit) ≡ true → Found (optional_equals alone with_equal cs) (c ∷ cs)
or_equal_found alone with_equal lit c [] one two h = one c ∙ and_from (c == lit) true h refl
or_equal_found alone with_equal lit c (d ∷ ds) one two h = grind arith

run_found : (c : ℕ) (cs : List ℕ) → (is_whitespace c ≡ false → begins_none c ≡ false) → (c == dollar) ≡ false → Found (blanks_or_word c cs) (c ∷ cs)
run_found c cs h d = by_test (is_whitespace c) refl
  where
    by_test : (b : Bool) → is_whitespace c ≡ b → Found (Some (cond b (k.Whitespace, 1 + prefix_len is_whitespace cs) (k.Key, 1 + prefix_len goes_on cs))) (c ∷ cs)
    by_test true e = ap (λ n. is_blank (take n (c ∷ cs))) (one_more (prefix_len is_whitespace cs)) ∙ and_from (is_whitespace c) (all_pass is_whitespace (take (prefix_len is_whitespace cs) cs)) e (taken_pass is_whitespace cs)
    by_test false e =
        ap (λ n. is_word (take n (c ∷ cs))) (one_more (prefix_len goes_on cs))
        ∙ (ap (λ b. cond b (dollar_goes_on (take (prefix_len goes_on cs) cs)) (not (begins_none c) && all_pass goes_on (take (prefix_len goes_on cs) cs))) d
        ∙ and_from (not (begins_none c)) (all_pass goes_on (take (prefix_len goes_on cs) cs)) (ap not (h e)) (taken_pass goes_on cs))

longer_found : (c : ℕ) (cs : List ℕ) → (c == 46) ≡ false → (c == 42) ≡ false → (c == 91) ≡ false → (c == 93) ≡ false → (c == 40) ≡ false → (c == 41) ≡ false → (c == 64) ≡ false → (c == 63) ≡ false → (c == 44) ≡ false → (c == 58) ≡ false → Found (several_character_lexeme c cs) (c ∷ cs)
longer_found c cs e46 e42 e91 e93 e40 e41 e64 e63 e44 e58 =
    cond_both (c == 36) _ _ (λ o. Found o (c ∷ cs)) (λ e. dollar_found c cs e)
    (λ e36. cond_both (c == 34) _ _ (λ o. Found o (c ∷ cs)) (λ e. quoted_found k.DoubleQuoted 34 c cs (λ xs. refl) e)
    (λ e34. cond_both (c == 39) _ _ (λ o. Found o (c ∷ cs)) (λ e. quoted_found k.SingleQuoted 39 c cs (λ xs. refl) e)
    (λ e39. cond_both (c == 61) _ _ (λ o. Found o (c ∷ cs)) (λ e. doubled_found k.Equal 61 61 c cs (λ a b. refl) e)
    (λ e61. cond_both (c == 33) _ _ (λ o. Found o (c ∷ cs)) (λ e. doubled_found k.NotEqual 33 61 c cs (λ a b. refl) e)
    (λ e33. cond_both (c == 38) _ _ (λ o. Found o (c ∷ cs)) (λ e. doubled_found k.And 38 38 c cs (λ a b. refl) e)
    (λ e38. cond_both (c == 124) _ _ (λ o. Found o (c ∷ cs)) (λ e. doubled_found k.Or 124 124 c cs (λ a b. refl) e)
    (λ e124. cond_both (c == 62) _ _ (λ o. Found o (c ∷ cs)) (λ e. or_equal_found k.Greater k.GreaterOrEqual 62 c cs (λ a. refl) (λ a b. refl) e)
    (λ e62. cond_both (c == 60) _ _ (λ o. Found o (c ∷ cs)) (λ e. or_equal_found k.Little k.LittleOrEqual 60 c cs (λ a. refl) (λ a b. refl) e)
    (λ e60. run_found c cs (λ w. or_from _ _ (or_from _ _ (or_from _ _ (or_from _ _ (or_from _ _ (or_from _ _ (or_from _ _ (or_from _ _ (or_from _ _ (or_from _ _ (or_from _ _ (or_from _ _ (or_from _ _ (or_from _ _ (or_from _ _ (or_from _ _ (or_from _ _ (or_from _ _ (e46) e42) e91) e93) e40) e41) e64) e63) e44) e58) e60) e62) e61) e38) e124) e33) w) e36) (or_from _ _ e34 e39)) e36)))))))))

pub front_found : (c : ℕ) (cs : List ℕ) → Found (lexeme_beginning_with c cs) (c ∷ cs)
front_found c cs = grind (arith, and_from, longer_found)

pub first_is : (cs : List ℕ) (kind : Kind) (n : ℕ) → first cs ≡ Some (kind, n) → IsFirst cs kind n
unfolding first
first_is [] kind n e = cc
first_is (c ∷ cs) kind n e =
    let found = subst (λ o. Found o (c ∷ cs)) e (front_found c cs) in
    let within = subst (λ o. Within o (suc (length cs))) e (front_within c cs) in
    record { token = found; within = within.1; longest = first_longest (c ∷ cs) (kind, n) e }

pub first_or_none : (cs : List ℕ) → ((kind : Kind) × (n : ℕ) × IsFirst cs kind n) ⊎ HasNone cs
first_or_none cs = by_first (first cs) refl
  where
    by_first : (o : Option (Kind × ℕ)) → first cs ≡ o → ((kind : Kind) × (n : ℕ) × IsFirst cs kind n) ⊎ HasNone cs
    by_first None e = inr (first_has_none cs e)
    by_first (Some f) e = inl (f.0, f.1, first_is cs f.0 f.1 e)

pub word_is_first : (c : ℕ) (t rest : List ℕ) → begins_none c ≡ false → all_pass goes_on t ≡ true → ends_word rest ≡ true → IsFirst (c ∷ t ++ rest) k.Key (suc (length t))
word_is_first c t rest h all ends = first_is (c ∷ t ++ rest) k.Key (suc (length t)) (word_first c t rest h all ends)
