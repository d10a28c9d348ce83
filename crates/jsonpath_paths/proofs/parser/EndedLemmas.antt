-- Samples of tokens that the machine takes one after the other, as characters: they are these tokens.
use Rattle.std.proofs.Common.{◌≡◌, ◌<◌, ℕ, ◌+◌, Bool, true, false, List, [], ◌∷◌, ◌++◌, length, Some, None, Option, refl, ap₂, ◌∙◌, arith}
use Rattle.std.specs.Char.{is_whitespace}
use lib.Utf8.{scalars, encodes, encode}
use Rattle.jsonpath_paths.specs.Grammar.{Lexemes}
use Rattle.jsonpath_paths.specs.text.Characters.{byte_len, is_no_stop, goes_on}
use Rattle.jsonpath_paths.specs.token.Reading.{first}
use Rattle.jsonpath_paths.specs.token.Tokens.{TokensAt, no_token, lexeme}
use Rattle.jsonpath_paths.specs.declared.token.tokens.Kind.{Kind}
use Rattle.jsonpath_paths.specs.declared.token.tokens.Kind.TheVariants as k
use Rattle.jsonpath_paths.specs.plan.Wants.{Want, Sign, feed, run, run_on, signs}
use Rattle.jsonpath_paths.proofs.parser.ApartLemmas.{Touch, words, white, equals, starts, runs_on, safe, Apart, fed_safe, quiet_refuses}
use Rattle.jsonpath_paths.proofs.parser.WantsLemmas.{sample, samples}
use Rattle.jsonpath_paths.proofs.token.FoundLemmas.{first_is}
use Rattle.jsonpath_paths.proofs.token.LongestLemmas.{first_has_none}
use Rattle.jsonpath_paths.proofs.token.KeptLemmas.{ends, is_equals, GoesOn, dollar_word_on, dollar_on, word_on, blanks_on, greater_on, little_on, first_stays}
use Rattle.jsonpath_paths.proofs.tree.FencedLemmas.{At, at_next, token_then}

abbrev pub characters_of : List Kind → List ℕ
characters_of [] = []
characters_of (kind ∷ kinds) = sample kind ++ characters_of kinds

-- the tokens from a byte position on
abbrev pub lexemes_of : ℕ → List Kind → Lexemes
lexemes_of pos [] = []
lexemes_of pos (kind ∷ kinds) = lexeme kind pos (sample kind) ∷ lexemes_of (pos + byte_len (sample kind)) kinds

-- the test by which a token may be longer
data Tests : Touch → (ℕ → Bool) → Type 0 where
  no_stop : Tests words is_no_stop
  no_end : Tests words goes_on
  blank : Tests white is_whitespace
  equal : Tests equals is_equals

-- a sample ends what it does not touch
ends_at_sample : (t : Touch) (test : ℕ → Bool) (kind : Kind) (rest : List ℕ) → Tests t test → starts t kind ≡ false → ends test (sample kind ++ rest) ≡ true
ends_at_sample _ _ k.Absolute rest no_stop h = cc h
ends_at_sample _ _ k.Key rest no_stop h = cc h
ends_at_sample _ _ k.DoubleQuoted rest no_stop h = cc h
ends_at_sample _ _ k.SingleQuoted rest no_stop h = cc h
ends_at_sample _ _ _ rest no_stop h = refl
ends_at_sample _ _ k.Absolute rest no_end h = cc h
ends_at_sample _ _ k.Key rest no_end h = cc h
ends_at_sample _ _ k.DoubleQuoted rest no_end h = cc h
ends_at_sample _ _ k.SingleQuoted rest no_end h = cc h
ends_at_sample _ _ _ rest no_end h = refl
ends_at_sample _ _ k.Whitespace rest blank h = cc h
ends_at_sample _ _ _ rest blank h = refl
ends_at_sample _ _ k.Equal rest equal h = cc h
ends_at_sample _ _ _ rest equal h = refl

-- behind a token stand samples that the machine takes, and it is no longer by them
pub ends_there : (us vs : List Want) (kind : Kind) (kinds : List Kind) (test : ℕ → Bool) → Apart kind us → run us (samples kinds) ≡ Some vs → GoesOn kind test → ends test (characters_of kinds) ≡ true
ends_there us vs kind [] test apart h g = refl
ends_there us vs kind (next ∷ kinds) test apart h g = by_test g (by_touch words) (by_touch white) (by_touch equals)
  where
    by_start : (t : Touch) (b : Bool) → starts t next ≡ b → (b ≡ true → ⊥) → (test : ℕ → Bool) → Tests t test → ends test (characters_of (next ∷ kinds)) ≡ true
    by_start t b e never test is = grind (arith, ends_at_sample)

    by_touch : (t : Touch) → runs_on t kind ≡ true → (test : ℕ → Bool) → Tests t test → ends test (characters_of (next ∷ kinds)) ≡ true
    by_touch t e = by_start t (starts t next) refl (λ s. let none : feed us next (sample next) ≡ None = quiet_refuses t us next (sample next) s (apart t e) in cc (h, none))

    by_test : {kind : Kind} {test : ℕ → Bool} → GoesOn kind test → (runs_on words kind ≡ true → (test : ℕ → Bool) → Tests words test → ends test (characters_of (next ∷ kinds)) ≡ true)
        → (runs_on white kind ≡ true → (test : ℕ → Bool) → Tests white test → ends test (characters_of (next ∷ kinds)) ≡ true)
        → (runs_on equals kind ≡ true → (test : ℕ → Bool) → Tests equals test → ends test (characters_of (next ∷ kinds)) ≡ true) → ends test (characters_of (next ∷ kinds)) ≡ true
    by_test dollar_word_on f g h = f refl is_no_stop no_stop
    by_test dollar_on f g h = f refl is_no_stop no_stop
    by_test word_on f g h = f refl goes_on no_end
    by_test blanks_on f g h = g refl is_whitespace blank
    by_test greater_on f g h = h refl is_equals equal
    by_test little_on f g h = h refl is_equals equal

alone : (kind : Kind) → first (sample kind ++ []) ≡ Some (kind, length (sample kind))
unfolding first
alone kind = grind arith

some_sample : (kind : Kind) → 0 < length (sample kind)
some_sample kind = grind arith

nothing_there : first [] ≡ None
unfolding first
nothing_there = refl

pub added_tokens : (pos : ℕ) (us vs : List Want) (kinds : List Kind) → safe us ≡ true → run us (samples kinds) ≡ Some vs → TokensAt pos (characters_of kinds) (lexemes_of pos kinds) []
added_tokens pos us vs [] s h = no_token (first_has_none [] nothing_there)
added_tokens pos us vs (kind ∷ kinds) s h = by_fed (feed us kind (sample kind)) refl h (λ ws g i. added_tokens (pos + byte_len (sample kind)) ws vs kinds g i)
  where
    by_fed : (o : Option (List Want)) → feed us kind (sample kind) ≡ o → run_on o (λ ws. run ws (samples kinds)) ≡ Some vs
        → ((ws : List Want) → safe ws ≡ true → run ws (samples kinds) ≡ Some vs → TokensAt (pos + byte_len (sample kind)) (characters_of kinds) (lexemes_of (pos + byte_len (sample kind)) kinds) [])
        → TokensAt pos (characters_of (kind ∷ kinds)) (lexemes_of pos (kind ∷ kinds)) []
    by_fed None e h more = cc h
    by_fed (Some ws) e h more =
        let left = fed_safe us ws kind (sample kind) s e in
        token_then pos (sample kind) (characters_of kinds) kind (lexemes_of (pos + byte_len (sample kind)) kinds)
        (first_is (sample kind ++ characters_of kinds) kind (length (sample kind)) (first_stays (sample kind) [] (characters_of kinds) kind (some_sample kind) (λ test g i. ends_there ws vs kind kinds test left.1 h g) (alone kind)))
        (more ws left.0 h)

pub added_scalars : (kinds : List Kind) → scalars (characters_of kinds) ≡ true
added_scalars [] = refl
added_scalars (kind ∷ kinds) = grind (arith, added_scalars kinds)

word_bytes : (kind : Kind) → encodes (sample kind) ≡ sample kind
unfolding encode
word_bytes kind = grind arith

pub added_signs : (text : List ℕ) (pos : ℕ) (kinds : List Kind) → At text pos (characters_of kinds) → signs text (lexemes_of pos kinds) ≡ samples kinds
added_signs text pos [] h = refl
added_signs text pos (kind ∷ kinds) h =
    let there = at_next text pos (sample kind) (characters_of kinds) h in
    ap₂ (λ (w : List ℕ) (more : List Sign). record { kind = kind; word = w } ∷ more) (there.1 ∙ word_bytes kind) (added_signs text (pos + byte_len (sample kind)) kinds there.2)
