-- How many characters the lexeme at the front takes.
use Rattle.std.proofs.Common.{◌≡◌, ◌<◌, ◌≤◌, ℕ, suc, ◌+◌, ◌-◌, Bool, List, [], ◌∷◌, length, Option, Some, None, ◌∙◌, ap, refl, take, cond, arith}
use Rattle.std.specs.Prelude.{option_map, ◌==◌, IfSome}
use Rattle.jsonpath_paths.specs.text.TextPlace.{Place, ahead, past}
use Rattle.jsonpath_paths.specs.text.Characters.{backslash, dollar}
use Rattle.jsonpath_paths.specs.token.Reading.{closing, quoted_lexeme, dollar_word, two_characters, optional_equals, blanks_or_word, single_character_kind, operator_blanks_or_word, by_single_character, lexeme_beginning_with, first}
use Rattle.jsonpath_paths.specs.plan.NextToken.{ends_at, first_at}
use Rattle.jsonpath_paths.specs.declared.token.tokens.Kind.{Kind}
use Rattle.jsonpath_paths.specs.declared.token.tokens.Kind.TheVariants as k
use Rattle.std.proofs.lemmas.List.Sums.{prefix_len-le-length}

-- one character or more, and no more than there are
abbrev pub Within : Option (Kind × ℕ) → ℕ → Type 0
Within o most = IfSome o (λ f. (0 < f.1) × (f.1 ≤ most))

within_cond : (most : ℕ) (b : Bool) (x y : Option (Kind × ℕ)) → Within x most → Within y most → Within (cond b x y) most
within_cond most b x y h i = grind arith

dollar_within : (cs : List ℕ) → Within (dollar_word cs) (suc (length cs))
dollar_within cs = grind (arith, prefix_len-le-length)

run_within : (c : ℕ) (cs : List ℕ) → Within (blanks_or_word c cs) (suc (length cs))
run_within c cs = grind (arith, prefix_len-le-length)

doubled_within : (kind : Kind) (second : ℕ) (cs : List ℕ) → Within (two_characters kind second cs) (suc (length cs))
doubled_within kind second cs = grind arith

or_equal_within : (alone with_equal : Kind) (cs : List ℕ) → Within (optional_equals alone with_equal cs) (suc (length cs))
or_equal_within alone with_equal cs = grind arith

closing_within : (quote : ℕ) (cs : List ℕ) → IfSome (closing quote cs) (λ n. n ≤ length cs)
closing_within quote [] = tt
closing_within quote (c ∷ []) = grind arith
closing_within quote (c ∷ d ∷ cs) = by_test (c == quote) (c == backslash) (closing_within quote cs) (closing_within quote (d ∷ cs))
  where
    two : (o : Option ℕ) → IfSome o (λ n. n ≤ length cs) → IfSome (option_map (λ n. 2 + n) o) (λ n. n ≤ suc (suc (length cs)))
    two o h = grind arith

    one : (o : Option ℕ) → IfSome o (λ n. n ≤ suc (length cs)) → IfSome (option_map (λ n. 1 + n) o) (λ n. n ≤ suc (suc (length cs)))
    one o h = grind arith

    by_test : (b e : Bool) → IfSome (closing quote cs) (λ n. n ≤ length cs) → IfSome (closing quote (d ∷ cs)) (λ n. n ≤ suc (length cs))
        → IfSome (cond b (Some 1) (cond e (option_map (λ n. 2 + n) (closing quote cs)) (option_map (λ n. 1 + n) (closing quote (d ∷ cs))))) (λ n. n ≤ suc (suc (length cs)))
    by_test b e h i = grind (arith, one, two)

quoted_within : (kind : Kind) (quote : ℕ) (cs : List ℕ) → Within (quoted_lexeme kind quote cs) (suc (length cs))
quoted_within kind quote cs = by_count (closing quote cs) (closing_within quote cs)
  where
    by_count : (o : Option ℕ) → IfSome o (λ n. n ≤ length cs) → Within (option_map (λ n. (kind, 1 + n)) o) (suc (length cs))
    by_count o h = grind arith

operator_within : (c : ℕ) (cs : List ℕ) → Within (operator_blanks_or_word c cs) (suc (length cs))
operator_within c cs = grind (arith, doubled_within, or_equal_within, run_within)

pub front_within : (c : ℕ) (cs : List ℕ) → Within (lexeme_beginning_with c cs) (suc (length cs))
front_within c cs = by_kind (single_character_kind c)
  where
    by_kind : (m : Option Kind) → Within (by_single_character m c cs) (suc (length cs))
    by_kind (Some kind) = (omega arith, omega arith)
    by_kind None =
        within_cond (suc (length cs)) (c == dollar) _ _ (dollar_within cs)
        (within_cond (suc (length cs)) (c == 34) _ _ (quoted_within k.DoubleQuoted 34 cs)
        (within_cond (suc (length cs)) (c == 39) _ _ (quoted_within k.SingleQuoted 39 cs) (operator_within c cs)))

-- the place behind a character and others, from the place behind it
behind_one : (p r : Place) (c n : ℕ) (cs : List ℕ) → r ≡ past p (c ∷ []) → 0 < n → past p (take n (c ∷ cs)) ≡ past r (take (n - 1) cs)
behind_one p r c n cs e h = grind arith

pub first_ends : (p r q : Place) (c : ℕ) (o : Option Kind) → ahead p ≡ c ∷ ahead r → r ≡ past p (c ∷ []) → ends_at (lexeme_beginning_with c (ahead r)) r ≡ option_map (λ kind. (kind, q)) o
    → first_at p ≡ option_map (λ kind. (kind, q)) o
unfolding first
first_ends p r q c o e f h = ap (λ cs. option_map (λ (f : Kind × ℕ). (f.0, past p (take f.1 cs))) (first cs)) e ∙ (by_front (lexeme_beginning_with c (ahead r)) (front_within c (ahead r)) ∙ h)
  where
    by_front : (x : Option (Kind × ℕ)) → Within x (suc (length (ahead r))) → option_map (λ (f : Kind × ℕ). (f.0, past p (take f.1 (c ∷ ahead r)))) x ≡ ends_at x r
    by_front None w = refl
    by_front (Some x) w = ap (λ q. Some (x.0, q)) (behind_one p r c x.1 (ahead r) f w.0)

pub first_none : (p : Place) → ahead p ≡ [] → first_at p ≡ None
unfolding first
first_none p e = ap (λ cs. option_map (λ (f : Kind × ℕ). (f.0, past p (take f.1 cs))) (first cs)) e
