-- The text of a location is a path that selects just this location.
use Rattle.std.proofs.Common.{◌≡◌, ◌≤◌, ◌<◌, ◌+◌, ◌-◌, ◌^◌, ◌==◌, ℕ, zero, suc, pos, min, Bool, true, false, ◌&&◌, ◌||◌, List, [], ◌∷◌, ◌++◌, length, take, drop, map, Option, Some, None, option_and_then, cond, refl, sym, subst, ap, ◌∙◌, arith, leb, ltb, length-append, append-nil, append_assoc, option_map, is_some, unwrap_or, decimal}
use Rattle.std.specs.Char.{is_ascii_digit}
use Rattle.std.specs.List.{prefix_len}
use Rattle.std.specs.Str.{chars, IsAscii, IsUtf8, encode_utf8_all, all_ascii_digits}
use Rattle.std.specs.Str.Parse.{digits_value}
use Rattle.std.proofs.lemmas.Bool.{and_from, and_parts, leb-true, lt-ltb, ltb-true, ltb-false, le-leb}
use Rattle.std.proofs.lemmas.Fmt.{IsAscii-decimal, digits_decimal, digits_value-decimal, decimal_nonempty}
use Rattle.std.proofs.lemmas.Str.{encodes-IsAscii, encodes-chars, chars-IsAscii, chars-encodes, IsUtf8-from_ascii, scalars-chars, encodes-append}
use Rattle.std.proofs.lemmas.Str.Parse.{IsNumeralModel, numerals_by_value, tells_all_ascii_digits}
use Rattle.std.proofs.Math.Seq.{drop-append_seam, take-append_seam}
use lib.Utf8.{scalar, scalars, encodes}
use Rattle.jsonpath_nodes.specs.document.Document.{Document, null, boolean, number, string, array, object, Items, no_items, item}
use Rattle.jsonpath_nodes.specs.document.Find.{items_len, get_item}
use Rattle.jsonpath_paths.specs.Grammar as g
use Rattle.jsonpath_paths.specs.Grammar.{Lexemes, whole_number, levels}
use Rattle.jsonpath_paths.specs.token.Kinds.{IsFirst, HasNone}
use Rattle.jsonpath_paths.specs.Numbers.{index_of}
use Rattle.jsonpath_paths.specs.token.Reading.{closing, first}
use Rattle.jsonpath_paths.specs.Spelling.{Spells}
use Rattle.jsonpath_paths.specs.text.Spans.{slice_at}
use Rattle.jsonpath_paths.specs.text.Characters.{byte_len, byte_len_is, bytes_at, name_of, unescaped, goes_on}
use Rattle.jsonpath_paths.specs.token.Tokens.{TokensAt, no_token, one_token, lexeme}
use Rattle.jsonpath_paths.specs.tree.Tree.{Path, path, PathSteps, no_steps, step_then, plain}
use Rattle.jsonpath_paths.specs.declared.text.str_reader.StrRange.{StrRange}
use Rattle.jsonpath_paths.specs.declared.token.tokens.Kind.{Kind}
use Rattle.jsonpath_paths.specs.declared.token.tokens.Kind.TheVariants as k
use Rattle.jsonpath_paths.specs.declared.token.tokens.ParseToken.{ParseToken}
use Rattle.jsonpath_paths.specs.declared.token.tokens.Lexeme.{Lexeme}
use Rattle.jsonpath_paths.specs.declared.token.tokens.ParseToken.TheVariants as t
use Rattle.jsonpath_nodes.specs.place.Location.{Step, name, index, Location, child, at}
use Rattle.jsonpath_nodes.specs.place.LocationText.{guarded_char, guarded, step_chars, steps_chars, location_chars, location_text}
use Rattle.jsonpath_nodes.specs.step.Steps.{Plain, named, nth, selected, single_steps, step, present}
use Rattle.jsonpath_select.specs.SelectionLaws.{CanBeSpelled, AllCanBeSpelled, where_it_is, SelectsItself}
use Rattle.jsonpath_select.specs.Meaning.{sel, follow}
use Rattle.jsonpath_select.specs.Parts.{plain_of, at_index}
use Rattle.jsonpath_select.proofs.compile.BracketWordLemmas.{whole_index}
use Rattle.jsonpath_select.proofs.answer.AllThereLemmas.{at_more}
use Rattle.jsonpath_select.proofs.answer.SliceLemmas.{slice_is}

-- ---- digits

by_digit : (P : ℕ → Type 0) → P 48 → P 49 → P 50 → P 51 → P 52 → P 53 → P 54 → P 55 → P 56 → P 57 → (m : ℕ) → m < 10 → P (48 + m)
by_digit P a b c d e f g h i j zero low = a
by_digit P a b c d e f g h i j (suc zero) low = b
by_digit P a b c d e f g h i j (suc (suc zero)) low = c
by_digit P a b c d e f g h i j (suc (suc (suc zero))) low = d
by_digit P a b c d e f g h i j (suc (suc (suc (suc zero)))) low = e
by_digit P a b c d e f g h i j (suc (suc (suc (suc (suc zero))))) low = f
by_digit P a b c d e f g h i j (suc (suc (suc (suc (suc (suc zero)))))) low = g
by_digit P a b c d e f g h i j (suc (suc (suc (suc (suc (suc (suc zero))))))) low = h
by_digit P a b c d e f g h i j (suc (suc (suc (suc (suc (suc (suc (suc zero)))))))) low = i
by_digit P a b c d e f g h i j (suc (suc (suc (suc (suc (suc (suc (suc (suc zero))))))))) low = j
by_digit P a b c d e f g h i j (suc (suc (suc (suc (suc (suc (suc (suc (suc (suc m)))))))))) low = absurd (omega arith)

-- what holds of the ten digits
of_digit : (P : ℕ → Type 0) → P 48 → P 49 → P 50 → P 51 → P 52 → P 53 → P 54 → P 55 → P 56 → P 57 → (c : ℕ) → is_ascii_digit c ≡ true → P c
of_digit P a b c d e f g h i j x is =
    let both = and_parts (leb 48 x) (leb x 57) is in
    let least : 48 ≤ x = leb-true 48 x both.0 in
    let most : x ≤ 57 = leb-true x 57 both.1 in
    let same : 48 + (x - 48) ≡ x = omega arith in
    subst P same (by_digit P a b c d e f g h i j (x - 48) (omega arith))

digit_goes_on : (c : ℕ) → is_ascii_digit c ≡ true → goes_on c ≡ true
digit_goes_on c is = of_digit (λ c. goes_on c ≡ true) refl refl refl refl refl refl refl refl refl refl c is

digit_front : (c : ℕ) (cs : List ℕ) → is_ascii_digit c ≡ true → first (c ∷ cs) ≡ Some (k.Key, 1 + prefix_len goes_on cs)
unfolding first
digit_front c cs is = of_digit (λ c. first (c ∷ cs) ≡ Some (k.Key, 1 + prefix_len goes_on cs)) refl refl refl refl refl refl refl refl refl refl c is

digits_on : (ds rest : List ℕ) → all_ascii_digits ds ≡ true → prefix_len goes_on (ds ++ 93 ∷ rest) ≡ length ds
digits_on [] rest h = refl
digits_on (d ∷ ds) rest h =
    let both = and_parts (is_ascii_digit d) (all_ascii_digits ds) h in
    rw (digit_goes_on d both.0, digits_on ds rest both.1) (omega arith)

own : IsNumeralModel (λ ds. all_ascii_digits ds ≡ true) (digits_value 10)
own = numerals_by_value _ tells_all_ascii_digits

-- a word of digits is the first token before a bracket
digits_first : (ds rest : List ℕ) → 0 < length ds → all_ascii_digits ds ≡ true → first (ds ++ 93 ∷ rest) ≡ Some (k.Key, length ds)
digits_first [] rest some h = absurd (omega arith)
digits_first (d ∷ ds) rest some h =
    let both = and_parts (is_ascii_digit d) (all_ascii_digits ds) h in
    let size : 1 + length ds ≡ suc (length ds) = omega arith in
    digit_front d (ds ++ 93 ∷ rest) both.0 ∙ ap (λ n. Some (k.Key, 1 + n)) (digits_on ds rest both.1) ∙ ap (λ n. Some (k.Key, n)) size

-- and it is read as its number
digits_index : (ds : List ℕ) (n : ℕ) → 0 < length ds → all_ascii_digits ds ≡ true → digits_value 10 ds ≡ n → n < 2 ^ 63 → index_of ds ≡ Some (pos n)
unfolding index_of
digits_index [] n some h value small = absurd (omega arith)
digits_index (d ∷ ds) n some h value small = of_digit Is (one 48) (one 49) (one 50) (one 51) (one 52) (one 53) (one 54) (one 55) (one 56) (one 57) d (and_parts (is_ascii_digit d) (all_ascii_digits ds) h).0 h value
  where
    Is : ℕ → Type 0
    Is c = all_ascii_digits (c ∷ ds) ≡ true → digits_value 10 (c ∷ ds) ≡ n → index_of (c ∷ ds) ≡ Some (pos n)

    one : (c : ℕ) → all_ascii_digits (c ∷ ds) ≡ true → digits_value 10 (c ∷ ds) ≡ n
        → cond ((ltb 0 (suc (length ds)) && all_ascii_digits (c ∷ ds)) && leb (digits_value 10 (c ∷ ds)) (2 ^ 63 - 1)) (Some (pos (digits_value 10 (c ∷ ds)))) None ≡ Some (pos n)
    one c h value =
        let positive : ltb 0 (suc (length ds)) ≡ true = lt-ltb 0 (suc (length ds)) (omega arith) in
        let least : leb n (2 ^ 63 - 1) ≡ true = le-leb n (2 ^ 63 - 1) (omega arith) in
        rw (positive, h, value, least) refl

pub ascii_scalars : (bs : List ℕ) → IsAscii bs → scalars bs ≡ true
ascii_scalars bs h = ap scalars (sym (chars-IsAscii bs h)) ∙ scalars-chars bs (IsUtf8-from_ascii bs h)

-- ---- quoted names

quote_closes : (rest : List ℕ) → closing 39 (39 ∷ rest) ≡ Some 1
quote_closes [] = refl
quote_closes (c ∷ cs) = refl

closing_past : (c n : ℕ) (cs : List ℕ) → (c == 39) ≡ false → (c == 92) ≡ false → closing 39 cs ≡ Some n → closing 39 (c ∷ cs) ≡ Some (suc n)
closing_past c n [] quote slash h = cc
closing_past c n (d ∷ ds) quote slash h = let size : 1 + n ≡ suc n = omega arith in rw (quote, slash, h) (ap Some size)

inside : List ℕ → List ℕ
inside cs = guarded cs ++ 39 ∷ []

closing_guarded : (cs rest : List ℕ) → closing 39 (inside cs ++ rest) ≡ Some (length (inside cs))
unfolding inside
closing_guarded [] rest = quote_closes rest
closing_guarded (c ∷ cs) rest = by_test (c == 39) (c == 92) refl refl (closing_guarded cs rest)
  where
    by_test : (a b : Bool) → (c == 39) ≡ a → (c == 92) ≡ b → closing 39 (inside cs ++ rest) ≡ Some (length (inside cs))
        → closing 39 (((cond (a || b) (92 ∷ c ∷ []) (c ∷ []) ++ guarded cs) ++ 39 ∷ []) ++ rest) ≡ Some (length ((cond (a || b) (92 ∷ c ∷ []) (c ∷ []) ++ guarded cs) ++ 39 ∷ []))
    by_test true b quote slash h = let size : 2 + length (inside cs) ≡ suc (suc (length (inside cs))) = omega arith in ap (option_map (λ n. 2 + n)) h ∙ ap Some size
    by_test false true quote slash h = let size : 2 + length (inside cs) ≡ suc (suc (length (inside cs))) = omega arith in ap (option_map (λ n. 2 + n)) h ∙ ap Some size
    by_test false false quote slash h = closing_past c (length (inside cs)) (inside cs ++ rest) quote slash h

name_first : (cs rest : List ℕ) → first ((39 ∷ inside cs) ++ rest) ≡ Some (k.SingleQuoted, length (39 ∷ inside cs))
unfolding first
name_first cs rest =
    let size : 1 + length (inside cs) ≡ suc (length (inside cs)) = omega arith in
    ap (option_map (λ n. (k.SingleQuoted, 1 + n))) (closing_guarded cs rest) ∙ ap (λ n. Some (k.SingleQuoted, n)) size

unescaped_past : (c : ℕ) (cs : List ℕ) → (c == 92) ≡ false → unescaped (c ∷ cs) ≡ c ∷ unescaped cs
unescaped_past c [] h = refl
unescaped_past c (d ∷ cs) h = rw h refl

unguarded : (cs : List ℕ) → unescaped (guarded cs) ≡ cs
unguarded [] = refl
unguarded (c ∷ cs) = grind (arith, unguarded cs, unescaped_past c (guarded cs))

-- the name between the quotes
name_inside : (cs : List ℕ) → name_of (39 ∷ inside cs) ≡ cs
unfolding inside
name_inside cs =
    let size : length (guarded cs ++ 39 ∷ []) - 1 ≡ length (guarded cs) = omega (arith, length-append (guarded cs) (39 ∷ [])) in
    ap (λ n. unescaped (take n (guarded cs ++ 39 ∷ []))) size ∙ ap unescaped (take-append_seam (guarded cs) (39 ∷ [])) ∙ unguarded cs

pub scalars_both : (cs ds : List ℕ) → scalars cs ≡ true → scalars ds ≡ true → scalars (cs ++ ds) ≡ true
scalars_both [] ds h i = i
scalars_both (c ∷ cs) ds h i = let both = and_parts (scalar c) (scalars cs) h in and_from (scalar c) (scalars (cs ++ ds)) both.0 (scalars_both cs ds both.1 i)

guarded_scalars : (cs : List ℕ) → scalars cs ≡ true → scalars (guarded cs) ≡ true
guarded_scalars [] h = refl
guarded_scalars (c ∷ cs) h = let both = and_parts (scalar c) (scalars cs) h in scalars_both (guarded_char c) (guarded cs) (by_test ((c == 39) || (c == 92)) both.0) (guarded_scalars cs both.1)
  where
    by_test : (b : Bool) → scalar c ≡ true → scalars (cond b (92 ∷ c ∷ []) (c ∷ [])) ≡ true
    by_test true here = and_from (scalar c) true here refl
    by_test false here = and_from (scalar c) true here refl

-- ---- the tokens of a location's text

-- what stands in the brackets of a step
word : Step → List ℕ
word (name bs) = 39 ∷ inside (chars bs)
word (index i) = decimal i

word_kind : Step → Kind
word_kind (name bs) = k.SingleQuoted
word_kind (index i) = k.Key

word_first : (s : Step) (rest : List ℕ) → CanBeSpelled s → first (word s ++ 93 ∷ rest) ≡ Some (word_kind s, length (word s))
unfolding word word_kind
word_first (name bs) rest h = name_first (chars bs) (93 ∷ rest)
word_first (index i) rest h = digits_first (decimal i) rest (decimal_nonempty i (omega (arith, h))) (digits_decimal own i (omega (arith, h)))

word_scalars : (s : Step) → CanBeSpelled s → scalars (word s) ≡ true
unfolding word inside
word_scalars (name bs) h = scalars_both (guarded (chars bs)) (39 ∷ []) (guarded_scalars (chars bs) (scalars-chars bs h)) refl
word_scalars (index i) h = ascii_scalars (decimal i) (IsAscii-decimal i (omega (arith, h)))

-- a step and what follows it
step_word : (s : Step) (rest : List ℕ) → step_chars s ++ rest ≡ 91 ∷ (word s ++ 93 ∷ rest)
unfolding word inside
step_word (name bs) rest =
    ap (λ cs. 91 ∷ 39 ∷ cs) (append_assoc (guarded (chars bs)) (39 ∷ 93 ∷ []) rest ∙ sym (append_assoc (guarded (chars bs)) (39 ∷ []) (93 ∷ rest)))
step_word (index i) rest = ap (λ cs. 91 ∷ cs) (append_assoc (decimal i) (93 ∷ []) rest)

steps_scalars : (l : Location) → AllCanBeSpelled l → scalars (steps_chars l) ≡ true
steps_scalars [] h = refl
steps_scalars (s ∷ l) h = ap scalars (step_word s (steps_chars l)) ∙ scalars_both (word s) (93 ∷ steps_chars l) (word_scalars s h.0) (steps_scalars l h.1)

-- a token by its first byte and its characters
lexemes_of : ℕ → Location → Lexemes
lexemes_of i [] = []
lexemes_of i (s ∷ l) =
    let inner = i + byte_len (91 ∷ []) in
    let close = inner + byte_len (word s) in
    lexeme k.OpenArray i (91 ∷ []) ∷ lexeme (word_kind s) inner (word s) ∷ lexeme k.CloseArray close (93 ∷ []) ∷ lexemes_of (close + byte_len (93 ∷ [])) l

-- a first token, and those behind it
pub token_is : (i : ℕ) (cs rest end : List ℕ) (kind : Kind) (ps : Lexemes) → IsFirst (cs ++ rest) kind (length cs) → TokensAt (i + byte_len cs) rest ps end
    → TokensAt i (cs ++ rest) (lexeme kind i cs ∷ ps) end
token_is i cs rest end kind ps is more =
    subst (λ xs. TokensAt i (cs ++ rest) (lexeme kind i xs ∷ ps) end) (take-append_seam cs rest)
    (one_token (length cs) is
    (subst (λ xs. TokensAt (i + byte_len xs) (drop (length cs) (cs ++ rest)) ps end) (sym (take-append_seam cs rest))
    (subst (λ ys. TokensAt (i + byte_len cs) ys ps end) (sym (drop-append_seam cs rest)) more)))

-- by the law of the longest front
module _ (longest : (cs : List ℕ) (kind : Kind) (n : ℕ) → first cs ≡ Some (kind, n) → IsFirst cs kind n) (none : (cs : List ℕ) → first cs ≡ None → HasNone cs) where
  token_then : (i : ℕ) (cs rest end : List ℕ) (kind : Kind) (ps : Lexemes) → first (cs ++ rest) ≡ Some (kind, length cs) → TokensAt (i + byte_len cs) rest ps end
      → TokensAt i (cs ++ rest) (lexeme kind i cs ∷ ps) end
  token_then i cs rest end kind ps is more = token_is i cs rest end kind ps (longest (cs ++ rest) kind (length cs) is) more

  tokens_of : (i : ℕ) (l : Location) → AllCanBeSpelled l → TokensAt i (steps_chars l) (lexemes_of i l) []
  unfolding lexemes_of first
  tokens_of i [] h = no_token (none [] refl)
  tokens_of i (s ∷ l) h =
      let inner = i + byte_len (91 ∷ []) in
      let close = inner + byte_len (word s) in
      subst (λ cs. TokensAt i cs (lexemes_of i (s ∷ l)) []) (sym (step_word s (steps_chars l)))
      (token_then i (91 ∷ []) (word s ++ 93 ∷ steps_chars l) [] k.OpenArray _ refl
      (token_then inner (word s) (93 ∷ steps_chars l) [] (word_kind s) _ (word_first s (steps_chars l) h.0)
      (token_then close (93 ∷ []) (steps_chars l) [] k.CloseArray _ refl (tokens_of (close + byte_len (93 ∷ [])) l h.1))))

-- ---- the tree of a location's text

-- the token in the brackets, by the span of its word
token_of : Step → StrRange → ParseToken
token_of (name bs) s = t.Key s
token_of (index i) s = t.Number (whole_number (pos i))

span_of_word : ℕ → Step → StrRange
span_of_word i s = record { pos = i + byte_len (91 ∷ []); offset = byte_len (word s) }

behind : ℕ → Step → ℕ
behind i s = i + byte_len (91 ∷ []) + byte_len (word s) + byte_len (93 ∷ [])

tree_of : ℕ → Location → PathSteps
tree_of i [] = no_steps
tree_of i (s ∷ l) = step_then false true (plain (token_of s (span_of_word i s))) (tree_of (behind i s) l)

abbrev pub plain_step : Step → Plain
plain_step (name bs) = named bs
plain_step (index i) = nth (pos i)

-- ---- where one step leads

no_item : (i : ℕ) (ds : Items) → items_len ds ≤ i → get_item i ds ≡ None
no_item i no_items h = refl
no_item zero (item d ds) h = absurd (omega arith)
no_item (suc i) (item d ds) h = no_item i ds (omega arith)

-- an index that passes the end leads nowhere, as the end itself does
selects_step : (s : Step) (d : Document) → selected (plain_step s) d ≡ present d s
selects_step (name bs) d = refl
selects_step (index i) null = refl
selects_step (index i) (boolean b) = refl
selects_step (index i) (number n) = refl
selects_step (index i) (string bs) = refl
selects_step (index i) (array ds) = by_test (ltb i (items_len ds)) refl
  where
    by_test : (b : Bool) → ltb i (items_len ds) ≡ b → present (array ds) (index (min i (items_len ds))) ≡ present (array ds) (index i)
    by_test true below = let least : min i (items_len ds) ≡ i = (let h : i < items_len ds = ltb-true i (items_len ds) below in omega arith) in ap (λ n. present (array ds) (index n)) least
    by_test false over =
        let past : items_len ds ≤ i = ltb-false i (items_len ds) over in
        let least : min i (items_len ds) ≡ items_len ds = omega arith in
        ap (λ n. present (array ds) (index n)) least
        ∙ ap (λ (o : Option Document). cond (is_some o) (index (items_len ds) ∷ []) []) (no_item (items_len ds) ds (omega arith))
        ∙ sym (ap (λ (o : Option Document). cond (is_some o) (index i ∷ []) []) (no_item i ds past))
selects_step (index i) (object ms) = refl

one_step_leads : (doc : Document) (s : Step) (m : Location) (d : Document) → at doc m ≡ Some d → step doc (plain_step s) (m ∷ []) ≡ cond (is_some (child s d)) ((m ++ s ∷ []) ∷ []) []
one_step_leads doc s m d here =
    ap (λ (o : Option Document). map (λ n. m ++ n) (unwrap_or (option_map (single_steps (plain_step s)) o) []) ++ []) here
    ∙ ap (λ ss. map (λ n. m ++ n) (map (λ t. t ∷ []) ss) ++ []) (selects_step s d)
    ∙ by_child (is_some (child s d))
  where
    by_child : (b : Bool) → map (λ n. m ++ n) (map (λ t. t ∷ []) (cond b (s ∷ []) [])) ++ [] ≡ cond b ((m ++ s ∷ []) ∷ []) []
    by_child true = refl
    by_child false = refl

-- ---- where steps lead that mean those of a location

module _ (text : List ℕ) where
  pub data Leads : PathSteps → Location → Type 0 where
    leads_nowhere : Leads no_steps []
    leads_on : {bracket : Bool} {token : ParseToken} {rest : PathSteps} {s : Step} {l : Location} → plain_of text token ≡ plain_step s → Leads rest l
        → Leads (step_then false bracket (plain token) rest) (s ∷ l)

  module _ (doc : Document) where
    follow_none : (ss : PathSteps) (l : Location) → Leads ss l → follow text doc ss [] ≡ []
    follow_none _ _ leads_nowhere = refl
    follow_none _ _ (leads_on {rest = rest} {l = l} is more) = follow_none rest l more

    pub follow_here : (ss : PathSteps) (l m : Location) (d : Document) → at doc m ≡ Some d → Leads ss l → follow text doc ss (m ∷ []) ≡ cond (is_some (at d l)) ((m ++ l) ∷ []) []
    follow_here _ _ m d here leads_nowhere = ap (λ n. n ∷ []) (sym (append-nil m))
    follow_here _ _ m d here (leads_on {rest = rest} {s = s} {l = l} is more) =
        ap (λ p. follow text doc rest (step doc p (m ∷ []))) is
        ∙ ap (follow text doc rest) (one_step_leads doc s m d here)
        ∙ by_child (child s d) refl (λ c there. follow_here rest l (m ++ s ∷ []) c there more)
      where
        by_child : (o : Option Document) → child s d ≡ o
            → ((c : Document) → at doc (m ++ s ∷ []) ≡ Some c → follow text doc rest ((m ++ s ∷ []) ∷ []) ≡ cond (is_some (at c l)) (((m ++ s ∷ []) ++ l) ∷ []) [])
            → follow text doc rest (cond (is_some o) ((m ++ s ∷ []) ∷ []) []) ≡ cond (is_some (option_and_then (λ c. at c l) o)) ((m ++ s ∷ l) ∷ []) []
        by_child None e later = follow_none rest l more
        by_child (Some c) e later =
            let there : at doc (m ++ s ∷ []) ≡ Some c = at_more m (s ∷ []) doc ∙ ap (option_and_then (λ x. at x (s ∷ []))) here ∙ ap (option_and_then (λ x. Some x)) e in
            later c there ∙ ap (λ n. cond (is_some (at c l)) (n ∷ []) []) (append_assoc m (s ∷ []) l)

-- ---- what the steps of a text mean

module _ (text : List ℕ) where
  -- from this byte on the text is that of these steps
  abbrev Here : ℕ → List ℕ → Type 0
  Here i cs = (i ≤ length text) × (drop i text ≡ encodes cs)

  -- what stands in the brackets, and what follows
  word_here : (i : ℕ) (s : Step) (l : Location) → CanBeSpelled s → AllCanBeSpelled l → Here i (steps_chars (s ∷ l))
      → (chars (slice_at text (span_of_word i s)) ≡ word s) × (bytes_at text (span_of_word i s) ≡ encodes (word s)) × Here (behind i s) (steps_chars l)
  unfolding span_of_word behind
  word_here i s l h hs here =
      let rest : List ℕ = steps_chars l in
      let rest_ok : scalars rest ≡ true = steps_scalars l hs in
      let word_ok : scalars (word s) ≡ true = word_scalars s h in
      let from_word_ok : scalars (word s ++ 93 ∷ rest) ≡ true = scalars_both (word s) (93 ∷ rest) word_ok rest_ok in
      let whole : drop i text ≡ encodes ((91 ∷ []) ++ (word s ++ 93 ∷ rest)) = here.1 ∙ ap encodes (step_word s rest) in
      let utf8 : (j : ℕ) (cs : List ℕ) → scalars cs ≡ true → drop j text ≡ encodes cs → IsUtf8 (drop j text) = λ j cs ok is. subst IsUtf8 (sym is) (cs, (ok, refl)) in
      let one = slice_is text i (91 ∷ []) (word s ++ 93 ∷ rest) here.0 refl from_word_ok (utf8 i (91 ∷ (word s ++ 93 ∷ rest)) from_word_ok whole) (whole ∙ encodes-append (91 ∷ []) (word s ++ 93 ∷ rest)) in
      let inner = i + byte_len (91 ∷ []) in
      let two = slice_is text inner (word s) (93 ∷ rest) one.2 word_ok rest_ok (utf8 inner (word s ++ 93 ∷ rest) from_word_ok one.1) (one.1 ∙ encodes-append (word s) (93 ∷ rest)) in
      let close = inner + byte_len (word s) in
      let three = slice_is text close (93 ∷ []) rest two.2 refl rest_ok (utf8 close (93 ∷ rest) rest_ok two.1) (two.1 ∙ encodes-append (93 ∷ []) rest) in
      let bytes : bytes_at text (span_of_word i s) ≡ encodes (word s) =
      ap (take (byte_len (word s))) (one.1 ∙ encodes-append (word s) (93 ∷ rest)) ∙ ap (λ n. take n (encodes (word s) ++ encodes (93 ∷ rest))) (byte_len_is (word s)) ∙ take-append_seam (encodes (word s)) (encodes (93 ∷ rest)) in
      (two.0, bytes, (three.2, three.1))

  index_here : (i n : ℕ) → (s : StrRange) → n < 2 ^ 63 → bytes_at text s ≡ encodes (decimal n) → index_of (bytes_at text s) ≡ Some (pos n)
  index_here i n s small is =
      let digits : all_ascii_digits (decimal n) ≡ true = digits_decimal own n (omega (arith, small)) in
      ap index_of (is ∙ encodes-IsAscii (decimal n) (IsAscii-decimal n (omega (arith, small)))) ∙ digits_index (decimal n) n (decimal_nonempty n (omega (arith, small))) digits (digits_value-decimal own n (omega (arith, small))) small

  plain_here : (i : ℕ) (s : Step) → CanBeSpelled s → chars (slice_at text (span_of_word i s)) ≡ word s → plain_of text (token_of s (span_of_word i s)) ≡ plain_step s
  unfolding token_of word
  plain_here i (name bs) h is = ap (λ cs. named (encode_utf8_all (name_of cs))) is ∙ ap (λ cs. named (encode_utf8_all cs)) (name_inside (chars bs)) ∙ ap named (encodes-chars bs h)
  plain_here i (index n) h is = ap at_index (whole_index n h)

  means : (i : ℕ) (l : Location) → AllCanBeSpelled l → Here i (steps_chars l) → Leads text (tree_of i l) l
  unfolding tree_of
  means i [] h here = leads_nowhere
  means i (s ∷ l) h here = let w = word_here i s l h.0 h.1 here in leads_on (plain_here i s h.0 w.0) (means (behind i s) l h.1 w.2)

  pub a_mark : {kind : Kind} {span : StrRange} {rest : Lexemes} → (let front : Lexeme = record { kind = kind; span = span } in g.SpellsPart text (g.mark kind) (front ∷ rest) rest)
  a_mark {span = span} = g.by (g.a_mark span) (g.next (g.one_token refl) g.end)

  no_blanks : {ts : Lexemes} → g.SpellsPart text g.blanks ts ts
  no_blanks = g.by g.no_blanks g.end

  in_brackets : (i : ℕ) (s : Step) (close : Lexemes) → CanBeSpelled s → bytes_at text (span_of_word i s) ≡ encodes (word s)
      → g.SpellsPart text (g.plain (token_of s (span_of_word i s))) (lexeme (word_kind s) (i + byte_len (91 ∷ [])) (word s) ∷ close) close
  unfolding token_of word_kind span_of_word word
  in_brackets i (name bs) close h is = g.by g.in_name (g.next (g.by g.single_quoted (g.next (g.one_token refl) g.end)) g.end)
  in_brackets i (index n) close h is =
      g.by g.in_index (g.next (g.by (g.an_index _ (index_here i n (span_of_word i (index n)) h is)) (g.next (g.one_token refl) g.end)) g.end)

  spelled_of : (n i : ℕ) (l : Location) → AllCanBeSpelled l → Here i (steps_chars l) → g.SpellsPart text (g.steps n (tree_of i l)) (lexemes_of i l) []
  unfolding tree_of lexemes_of behind
  spelled_of n i [] h here = g.by g.no_steps g.end
  spelled_of n i (s ∷ l) h here =
      let w = word_here i s l h.0 h.1 here in
      let close : Lexemes = lexeme k.CloseArray (i + byte_len (91 ∷ []) + byte_len (word s)) (93 ∷ []) ∷ lexemes_of (behind i s) l in
      let inside : g.SpellsPart text (g.inner n (plain (token_of s (span_of_word i s)))) _ close = g.by g.in_plain (g.next (in_brackets i s close h.0 w.1) g.end) in
      let first = g.by g.bracket (g.next a_mark (g.next no_blanks (g.next inside (g.next no_blanks (g.next a_mark g.end))))) in
      g.by g.step_then (g.next first (g.next (spelled_of n (behind i s) l h.1 w.2) g.end))

-- ---- the whole

dollar : List ℕ
dollar = 36 ∷ []

dollar_first : (l : Location) → first (dollar ++ steps_chars l) ≡ Some (k.Absolute, length dollar)
unfolding first dollar
dollar_first [] = refl
dollar_first (name bs ∷ l) = refl
dollar_first (index i ∷ l) = refl

root_end : ℕ
root_end = 0 + byte_len (36 ∷ [])

whole_tree : Location → Path
whole_tree l = path true (tree_of root_end l)

module _ (l : Location) (h : AllCanBeSpelled l) where
  whole_scalars : scalars (location_chars l) ≡ true
  whole_scalars = steps_scalars l h

  behind_root : Here (location_text l) root_end (steps_chars l)
  unfolding root_end
  behind_root =
      let text : List ℕ = location_text l in
      let one = slice_is text 0 (36 ∷ []) (steps_chars l) (omega arith) refl (steps_scalars l h) (location_chars l, (whole_scalars, refl)) (encodes-append (36 ∷ []) (steps_chars l)) in
      (one.2, one.1)

  spells_itself : ((cs : List ℕ) (kind : Kind) (n : ℕ) → first cs ≡ Some (kind, n) → IsFirst cs kind n) → ((cs : List ℕ) → first cs ≡ None → HasNone cs) → Spells (location_text l) (whole_tree l)
  unfolding whole_tree root_end dollar
  spells_itself longest none = record {
    tokens = lexeme k.Absolute 0 (36 ∷ []) ∷ lexemes_of root_end l;
    read = subst (λ cs. TokensAt 0 cs (lexeme k.Absolute 0 (36 ∷ []) ∷ lexemes_of root_end l) []) (sym (chars-encodes (location_chars l) whole_scalars))
        (token_then longest none 0 (36 ∷ []) (steps_chars l) [] k.Absolute (lexemes_of root_end l) (dollar_first l) (tokens_of longest none root_end l h));
    spelled = g.by g.from_root (g.next (a_mark (location_text l)) (g.next (spelled_of (location_text l) levels root_end l h behind_root) (g.next (no_blanks (location_text l)) g.end)));
  }

  selects_where : (doc : Document) → where_it_is doc l ≡ sel (location_text l) doc (whole_tree l)
  unfolding whole_tree
  selects_where doc = sym (follow_here (location_text l) doc (tree_of root_end l) l [] doc refl (means (location_text l) root_end l h behind_root))

pub location_text_selects_itself : ((cs : List ℕ) (kind : Kind) (n : ℕ) → first cs ≡ Some (kind, n) → IsFirst cs kind n) → ((cs : List ℕ) → first cs ≡ None → HasNone cs) → SelectsItself
location_text_selects_itself longest none doc l h = record { path = whole_tree l; spelled = spells_itself l h longest none; holds = selects_where l h doc }
