-- Where the tokens of a literal stop.
use Rattle.std.proofs.Common.{◌≡◌, ◌⊎◌, inl, inr, ℕ, Bool, true, false, List, [], ◌∷◌, ◌++◌, Option, Some, None, Result, sym, ◌∙◌, ap, arith}
use Rattle.std.specs.Prelude.{is_some, option_map, ◌&&◌, MatchResult}
use Rattle.std.specs.Result.{is_ok}
use Rattle.jsonpath_paths.specs.Grammar.{Lexemes}
use Rattle.jsonpath_paths.specs.Literals.{truth_of}
use Rattle.jsonpath_paths.specs.Numbers.{decimal_of, fraction_of, is_whole}
use Rattle.jsonpath_paths.specs.text.Characters.{bytes_at}
use Rattle.jsonpath_paths.specs.declared.decimal.Decimal.{Decimal}
use Rattle.jsonpath_paths.specs.declared.text.str_reader.StrRange.{StrRange}
use Rattle.jsonpath_paths.specs.declared.token.tokens.ParseToken.{ParseToken}
use Rattle.jsonpath_paths.specs.declared.token.tokens.Kind.TheVariants as k
use Rattle.jsonpath_paths.specs.declared.parser.tree_parser.Refusal.{Refusal}
use Rattle.jsonpath_paths.specs.declared.parser.tree_parser.Refusal.TheVariants as fault
use Rattle.jsonpath_paths.specs.plan.ParsedParts.{take_token, eat, literal_from_word, rest_of_number}
use Rattle.jsonpath_paths.specs.plan.Parsing.{Reads}
use Rattle.jsonpath_paths.specs.plan.TokensLeft.{TokensLeft}
use Rattle.jsonpath_paths.specs.plan.Wants.{Want, stop_on, moved, if_word, literal_word, Stops, StopsBehind, literal, fraction}
use Rattle.jsonpath_paths.proofs.parser.SoundLemmas.{take_takes, then_some, choose_some}
use Rattle.std.proofs.lemmas.Bool.{and_parts}

-- a word that is taken or refused
pub word_in : (b : Bool) (us ws : List Want) (later : Option (List Want)) (here : Lexemes) (go : List Want → Option Lexemes) → b ≡ true → stop_on (moved (if_word b us) ws later) here go ≡ go (us ++ ws)
word_in b us ws later here go e = ap (λ b. stop_on (moved (if_word b us) ws later) here go) e

pub word_out : (b : Bool) (us ws : List Want) (later : Option (List Want)) (here : Lexemes) (go : List Want → Option Lexemes) → b ≡ false → stop_on (moved (if_word b us) ws later) here go ≡ Some here
word_out b us ws later here go e = ap (λ b. stop_on (moved (if_word b us) ws later) here go) e

-- numbers

mapped : {A B : Type 0} (f : A → B) (o : Option A) → is_some (option_map f o) ≡ is_some o
mapped f o = grind arith

decides : (w f : List ℕ) → is_some (decimal_of w f) ≡ (is_whole w && is_some (fraction_of f))
unfolding decimal_of
decides w f = grind (arith, mapped)

-- what may stand behind a point is the same for each whole part
pub any_whole : (w f : List ℕ) → is_some (decimal_of w []) ≡ true → is_some (decimal_of w f) ≡ is_some (decimal_of (48 ∷ []) f)
any_whole w f h = grind (arith, and_parts, decides)

first_part : (w f : List ℕ) → is_some (decimal_of w f) ≡ true → is_some (decimal_of w []) ≡ true
unfolding fraction_of
first_part w f h = decides w [] ∙ ap (λ b. b && true) (and_parts (is_whole w) (is_some (fraction_of f)) (sym (decides w f) ∙ h)).0

-- the digits behind the point of a number
pub number_stops : (w : List ℕ) (r : Result Decimal Refusal) (s f : StrRange) (old dot new last : TokensLeft) → take_token k.Dot old.lexemes ≡ Some (s, dot.lexemes)
    → take_token k.Key dot.lexemes ≡ Some (f, new.lexemes)
    → MatchResult r (λ d. decimal_of w (bytes_at old.text f) ≡ Some d) (λ e. (e ≡ fault.Refused) × (decimal_of w (bytes_at old.text f) ≡ None))
    → (is_ok r ≡ true → last.lexemes ≡ new.lexemes) → (is_ok r ≡ false → last.lexemes ≡ dot.lexemes) → StopsBehind (if_word (is_some (decimal_of w [])) (fraction ∷ [])) r old last
number_stops w r s f old dot new last point word found ok not_ok = grind (arith, any_whole, take_takes, word_in)

-- which words begin a literal
abbrev pub Begins : List ℕ → Type 0
Begins w = (is_some (truth_of w) ≡ true) ⊎ (is_some (decimal_of w []) ≡ true)

pub number_word : (text w : List ℕ) (ts : Lexemes) (r : Decimal × Lexemes) → rest_of_number text w ts ≡ Some r → is_some (decimal_of w []) ≡ true
number_word text w ts r h =
    elim (choose_some (eat k.Dot ts) _ _ r h) [
      | inl c ↦
          let x = then_some (take_token k.Key c.0) _ r c.2 in
          let y = then_some (decimal_of w (bytes_at text x.0.0)) _ r x.2 in
          first_part w (bytes_at text x.0.0) (ap is_some y.1)
      | inr e ↦ ap is_some (then_some (decimal_of w []) _ r e.1).1
    ]

pub literal_begins : (text w : List ℕ) (ts : Lexemes) (r : ParseToken × Lexemes) → literal_from_word text w ts ≡ Some r → Begins w
literal_begins text w ts r h = grind (arith, number_word, then_some)

pub ok_begins : (r : Result ParseToken Refusal) (w : List ℕ) (old new : TokensLeft) → Reads (λ t. t) (literal_from_word old.text w old.lexemes) r old new → is_ok r ≡ true → Begins w
ok_begins r w old new h e = grind (arith, literal_begins)

-- a literal that begins with a word
pub literal_stops : (w : List ℕ) (r : Result ParseToken Refusal) (s : StrRange) (old mid new : TokensLeft) → take_token k.Key old.lexemes ≡ Some (s, mid.lexemes) → bytes_at old.text s ≡ w
    → mid.text ≡ old.text → Begins w → StopsBehind (literal_word w []) r mid new → Stops (literal ∷ []) r old new
literal_stops w r s old mid new word same same_text begins h = grind arith
