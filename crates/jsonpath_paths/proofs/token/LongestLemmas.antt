-- The lexeme at the front is the longest front that is a token.
use Rattle.std.proofs.Common.{◌≡◌, ◌≤◌, ℕ, suc, ◌+◌, Bool, true, false, not, List, [], ◌∷◌, ◌++◌, length, Option, Some, None, sym, ◌∙◌, ap, subst, refl, take, drop, cond, arith, length-take, codes, rules}
use Rattle.std.specs.Prelude.{◌==◌, ◌&&◌}
use Rattle.std.specs.Char.{is_whitespace}
use Rattle.std.specs.List.{prefix_len}
use Rattle.std.specs.Str.{bytes_eq}
use Rattle.std.proofs.lemmas.Slice.Eq.{bytes_eq-Decides}
use Rattle.std.proofs.lemmas.List.{take-append-drop}
use Rattle.std.proofs.lemmas.Bool.{and_parts, cond-false, eqb-true, false_from_ne_true, or_right, or_left, not-true}
use Rattle.jsonpath_paths.specs.text.Characters.{goes_on}
use Rattle.jsonpath_paths.specs.token.Reading.{closing, quoted_lexeme, dollar_word, optional_equals, blanks_or_word, single_character_kind, by_single_character, lexeme_beginning_with, first}
use Rattle.jsonpath_paths.specs.token.Kinds.{all_pass, closed, dollar_goes_on, begins_none, ends_word, is_token, HasNone}
use Rattle.jsonpath_paths.specs.declared.token.tokens.Kind.{Kind}
use Rattle.jsonpath_paths.specs.declared.token.tokens.Kind.TheVariants as k
use Rattle.jsonpath_paths.proofs.text.QuoteLemmas.{closing_here, closing_guard}

-- at least so many characters, and as many only for this kind
abbrev Covers : Option (Kind × ℕ) → Kind → ℕ → Type 0
Covers None other m = ⊥
Covers (Some f) other m = (m ≤ f.1) × (m ≡ f.1 → other ≡ f.0)

differs : (P : ℕ → Bool) (n c : ℕ) → P n ≡ true → P c ≡ false → (c == n) ≡ false
differs P n c e h = false_from_ne_true (c == n) (λ t. let same : c ≡ n = eqb-true c n t in cc (e, h, ap P same))

abbrev no_blank : ℕ → Bool
no_blank c = not (is_whitespace c)

blank_front : (c : ℕ) (cs : List ℕ) → no_blank c ≡ false → lexeme_beginning_with c cs ≡ blanks_or_word c cs
blank_front c cs h = ap (λ m. by_single_character m c cs) mark_none ∙ (cond-false (c == 36) _ _ (differs no_blank 36 c refl h) ∙ (cond-false (c == 34) _ _ (differs no_blank 34 c refl h) ∙ (cond-false (c == 39) _ _ (differs no_blank 39 c refl h) ∙ (cond-false (c == 61) _ _ (differs no_blank 61 c refl h) ∙ (cond-false (c == 33) _ _ (differs no_blank 33 c refl h) ∙ (cond-false (c == 38) _ _ (differs no_blank 38 c refl h) ∙ (cond-false (c == 124) _ _ (differs no_blank 124 c refl h) ∙ (cond-false (c == 62) _ _ (differs no_blank 62 c refl h) ∙ (cond-false (c == 60) _ _ (differs no_blank 60 c refl h) ∙ (refl))))))))))
  where
    mark_none : single_character_kind c ≡ None
    mark_none = cond-false (c == 46) _ _ (differs no_blank 46 c refl h) ∙ (cond-false (c == 42) _ _ (differs no_blank 42 c refl h) ∙ (cond-false (c == 91) _ _ (differs no_blank 91 c refl h) ∙ (cond-false (c == 93) _ _ (differs no_blank 93 c refl h) ∙ (cond-false (c == 40) _ _ (differs no_blank 40 c refl h) ∙ (cond-false (c == 41) _ _ (differs no_blank 41 c refl h) ∙ (cond-false (c == 64) _ _ (differs no_blank 64 c refl h) ∙ (cond-false (c == 63) _ _ (differs no_blank 63 c refl h) ∙ (cond-false (c == 44) _ _ (differs no_blank 44 c refl h) ∙ (cond-false (c == 58) _ _ (differs no_blank 58 c refl h) ∙ (refl))))))))))

word_front : (c : ℕ) (cs : List ℕ) → begins_none c ≡ false → lexeme_beginning_with c cs ≡ blanks_or_word c cs
word_front c cs h = search (rules, arith, cond-false, differs)

prefix_covers : (test : ℕ → Bool) (t rest : List ℕ) → all_pass test t ≡ true → length t ≤ prefix_len test (t ++ rest)
prefix_covers test [] rest h = omega arith
prefix_covers test (c ∷ cs) rest h =
    let p = and_parts (test c) (all_pass test cs) h in
    let more = prefix_covers test cs rest p.1 in
    let one = ap (λ b. cond b (1 + prefix_len test (cs ++ rest)) 0) p.0 in
    omega (arith, one, more)

pub closed_covers : (quote : ℕ) (t rest : List ℕ) → closed quote t ≡ true → closing quote (t ++ rest) ≡ Some (length t)
closed_covers quote [] rest h = cc
closed_covers quote (c ∷ []) rest h = closing_here quote c rest h
closed_covers quote (c ∷ d ∷ cs) rest h = grind (arith, closing_guard, closed_covers quote cs rest, closed_covers quote (d ∷ cs) rest)

quoted_covers : (kind : Kind) (quote : ℕ) (t rest : List ℕ) → closed quote t ≡ true → Covers (quoted_lexeme kind quote (t ++ rest)) kind (suc (length t))
quoted_covers kind quote t rest h = grind (arith, closed_covers)

dollar_covers : (t rest : List ℕ) → dollar_goes_on t ≡ true → Covers (dollar_word (t ++ rest)) k.Key (suc (length t))
dollar_covers t rest h = grind (arith, eqb-true, prefix_covers)

bare_covers : (rest : List ℕ) → Covers (dollar_word rest) k.Absolute 1
bare_covers rest = grind arith

alone_covers : (alone with_equal : Kind) (rest : List ℕ) → Covers (optional_equals alone with_equal rest) alone 1
alone_covers alone with_equal [] = (omega arith, λ _. refl)
alone_covers alone with_equal (c ∷ cs) = grind arith

blank_covers : (c : ℕ) (t rest : List ℕ) → is_whitespace c ≡ true → all_pass is_whitespace t ≡ true → Covers (lexeme_beginning_with c (t ++ rest)) k.Whitespace (suc (length t))
blank_covers c t rest h all =
    let covers = prefix_covers is_whitespace t rest all in
    let is = blank_front c (t ++ rest) (ap not h) ∙ ap (λ b. Some (cond b (k.Whitespace, 1 + prefix_len is_whitespace (t ++ rest)) (k.Key, 1 + prefix_len goes_on (t ++ rest)))) h in
    subst (λ o. Covers o k.Whitespace (suc (length t))) (sym is) (omega (arith, covers), λ _. refl)

blank_begins : (c : ℕ) → is_whitespace c ≡ true → begins_none c ≡ true
blank_begins c h = search (rules, or_right, or_left)

word_covers : (c : ℕ) (t rest : List ℕ) → begins_none c ≡ false → all_pass goes_on t ≡ true → Covers (lexeme_beginning_with c (t ++ rest)) k.Key (suc (length t))
word_covers c t rest h all =
    let covers = prefix_covers goes_on t rest all in
    let blank : is_whitespace c ≡ false = false_from_ne_true (is_whitespace c) (λ b. cc (h, blank_begins c b)) in
    let is = word_front c (t ++ rest) h ∙ ap (λ b. Some (cond b (k.Whitespace, 1 + prefix_len is_whitespace (t ++ rest)) (k.Key, 1 + prefix_len goes_on (t ++ rest)))) blank in
    subst (λ o. Covers o k.Key (suc (length t))) (sym is) (omega (arith, covers), λ _. refl)

prefix_ends : (t rest : List ℕ) → all_pass goes_on t ≡ true → ends_word rest ≡ true → prefix_len goes_on (t ++ rest) ≡ length t
prefix_ends [] [] all ends = refl
prefix_ends [] (c ∷ cs) all ends = ap (λ b. cond b (1 + prefix_len goes_on cs) 0) (not-true (goes_on c) ends)
prefix_ends (c ∷ cs) rest all ends =
    let p = and_parts (goes_on c) (all_pass goes_on cs) all in
    ap (λ b. cond b (1 + prefix_len goes_on (cs ++ rest)) 0) p.0 ∙ ap (λ n. 1 + n) (prefix_ends cs rest p.1 ends) ∙ omega arith

-- a word up to where it ends is found at the front
pub word_first : (c : ℕ) (t rest : List ℕ) → begins_none c ≡ false → all_pass goes_on t ≡ true → ends_word rest ≡ true → first (c ∷ t ++ rest) ≡ Some (k.Key, suc (length t))
unfolding first
word_first c t rest h all ends =
    let blank : is_whitespace c ≡ false = false_from_ne_true (is_whitespace c) (λ b. cc (h, blank_begins c b)) in
    let size : 1 + length t ≡ suc (length t) = omega arith in
    word_front c (t ++ rest) h ∙ ap (λ b. Some (cond b (k.Whitespace, 1 + prefix_len is_whitespace (t ++ rest)) (k.Key, 1 + prefix_len goes_on (t ++ rest)))) blank
    ∙ ap (λ n. Some (k.Key, 1 + n)) (prefix_ends t rest all ends) ∙ ap (λ n. Some (k.Key, n)) size

pub same_text : (xs ys : List ℕ) → bytes_eq xs ys ≡ true → xs ≡ ys
same_text xs ys h = (bytes_eq-Decides xs ys).0 h

pub covers : (other : Kind) (xs rest : List ℕ) → is_token other xs ≡ true → Covers (first (xs ++ rest)) other (length xs)
unfolding first
covers k.Key (c ∷ t) rest h = grind (arith, and_parts, dollar_covers, eqb-true, not-true, word_covers)
covers k.Whitespace (c ∷ t) rest h = let p = and_parts (is_whitespace c) (all_pass is_whitespace t) h in blank_covers c t rest p.0 p.1
covers k.DoubleQuoted (c ∷ t) rest h =
    let p = and_parts (c == 34) (closed 34 t) h in
    subst (λ d. Covers (lexeme_beginning_with d (t ++ rest)) k.DoubleQuoted (suc (length t))) (sym (eqb-true c 34 p.0)) (quoted_covers k.DoubleQuoted 34 t rest p.1)
covers k.SingleQuoted (c ∷ t) rest h =
    let p = and_parts (c == 39) (closed 39 t) h in
    subst (λ d. Covers (lexeme_beginning_with d (t ++ rest)) k.SingleQuoted (suc (length t))) (sym (eqb-true c 39 p.0)) (quoted_covers k.SingleQuoted 39 t rest p.1)
covers k.Absolute xs rest h = subst (λ ys. Covers (first (ys ++ rest)) k.Absolute (length ys)) (sym (same_text xs (codes "$") h)) (bare_covers rest)
covers k.Dot xs rest h = subst (λ ys. Covers (first (ys ++ rest)) k.Dot (length ys)) (sym (same_text xs (codes ".") h)) ((omega arith, λ _. refl))
covers k.At xs rest h = subst (λ ys. Covers (first (ys ++ rest)) k.At (length ys)) (sym (same_text xs (codes "@") h)) ((omega arith, λ _. refl))
covers k.OpenArray xs rest h = subst (λ ys. Covers (first (ys ++ rest)) k.OpenArray (length ys)) (sym (same_text xs (codes "[") h)) ((omega arith, λ _. refl))
covers k.CloseArray xs rest h = subst (λ ys. Covers (first (ys ++ rest)) k.CloseArray (length ys)) (sym (same_text xs (codes "]") h)) ((omega arith, λ _. refl))
covers k.Asterisk xs rest h = subst (λ ys. Covers (first (ys ++ rest)) k.Asterisk (length ys)) (sym (same_text xs (codes "*") h)) ((omega arith, λ _. refl))
covers k.Question xs rest h = subst (λ ys. Covers (first (ys ++ rest)) k.Question (length ys)) (sym (same_text xs (codes "?") h)) ((omega arith, λ _. refl))
covers k.Comma xs rest h = subst (λ ys. Covers (first (ys ++ rest)) k.Comma (length ys)) (sym (same_text xs (codes ",") h)) ((omega arith, λ _. refl))
covers k.Split xs rest h = subst (λ ys. Covers (first (ys ++ rest)) k.Split (length ys)) (sym (same_text xs (codes ":") h)) ((omega arith, λ _. refl))
covers k.OpenParenthesis xs rest h = subst (λ ys. Covers (first (ys ++ rest)) k.OpenParenthesis (length ys)) (sym (same_text xs (codes "(") h)) ((omega arith, λ _. refl))
covers k.CloseParenthesis xs rest h = subst (λ ys. Covers (first (ys ++ rest)) k.CloseParenthesis (length ys)) (sym (same_text xs (codes ")") h)) ((omega arith, λ _. refl))
covers k.Equal xs rest h = subst (λ ys. Covers (first (ys ++ rest)) k.Equal (length ys)) (sym (same_text xs (codes "==") h)) ((omega arith, λ _. refl))
covers k.GreaterOrEqual xs rest h = subst (λ ys. Covers (first (ys ++ rest)) k.GreaterOrEqual (length ys)) (sym (same_text xs (codes ">=") h)) ((omega arith, λ _. refl))
covers k.Greater xs rest h = subst (λ ys. Covers (first (ys ++ rest)) k.Greater (length ys)) (sym (same_text xs (codes ">") h)) (alone_covers k.Greater k.GreaterOrEqual rest)
covers k.Little xs rest h = subst (λ ys. Covers (first (ys ++ rest)) k.Little (length ys)) (sym (same_text xs (codes "<") h)) (alone_covers k.Little k.LittleOrEqual rest)
covers k.LittleOrEqual xs rest h = subst (λ ys. Covers (first (ys ++ rest)) k.LittleOrEqual (length ys)) (sym (same_text xs (codes "<=") h)) ((omega arith, λ _. refl))
covers k.NotEqual xs rest h = subst (λ ys. Covers (first (ys ++ rest)) k.NotEqual (length ys)) (sym (same_text xs (codes "!=") h)) ((omega arith, λ _. refl))
covers k.And xs rest h = subst (λ ys. Covers (first (ys ++ rest)) k.And (length ys)) (sym (same_text xs (codes "&&") h)) ((omega arith, λ _. refl))
covers k.Or xs rest h = subst (λ ys. Covers (first (ys ++ rest)) k.Or (length ys)) (sym (same_text xs (codes "||") h)) ((omega arith, λ _. refl))
covers _ [] rest h = cc

covers_front : (other : Kind) (cs : List ℕ) (m : ℕ) → m ≤ length cs → is_token other (take m cs) ≡ true → Covers (first cs) other m
covers_front other cs m h t =
    let size : length (take m cs) ≡ m = omega (arith, length-take m cs) in
    subst (λ n. Covers (first cs) other n) size (subst (λ xs. Covers (first xs) other (length (take m cs))) (take-append-drop m cs) (covers other (take m cs) (drop m cs) t))

pub first_longest : (cs : List ℕ) (f : Kind × ℕ) → first cs ≡ Some f → (other : Kind) (m : ℕ) → m ≤ length cs → is_token other (take m cs) ≡ true → (m ≤ f.1) × (m ≡ f.1 → other ≡ f.0)
first_longest cs f e other m h t = subst (λ o. Covers o other m) e (covers_front other cs m h t)

pub first_has_none : (cs : List ℕ) → first cs ≡ None → HasNone cs
first_has_none cs e = λ other m h t. subst (λ o. Covers o other m) e (covers_front other cs m h t)
