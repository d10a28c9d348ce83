-- What stands before a parenthesis that closes is read the same, whatever follows it.
use Rattle.std.proofs.Common.{◌≡◌, ◌<◌, ◌≤◌, ◌+◌, ◌⊎◌, inl, inr, ℕ, zero, suc, Bool, true, false, ◌&&◌, ◌||◌, ◌==◌, List, [], ◌∷◌, ◌++◌, length, take, drop, Option, Some, refl, sym, subst, ap, ap₂, ◌∙◌, arith, ltb, length-append, length-take, length-drop, append_assoc, append-nil, codes, rules}
use Rattle.std.specs.Prelude.{option_map}
use Rattle.std.specs.Char.{is_whitespace}
use Rattle.std.specs.Str.{IsUtf8, bytes_eq}
use Rattle.std.proofs.lemmas.Bool.{or_from, or_right, and_from, and_parts, eqb-true, false_from_ne_true, ltb-true, ltb-false}
use Rattle.std.proofs.lemmas.List.{take-append-drop, take-append-le, drop-append-le}
use Rattle.std.proofs.lemmas.Str.{encodes-append}
use Rattle.std.proofs.Math.Seq.{drop-append_seam, take-append_seam}
use lib.Utf8.{scalars, encodes}
use Rattle.jsonpath_paths.specs.Grammar.{Lexemes}
use Rattle.jsonpath_paths.specs.token.Kinds.{all_pass, closed, is_token, dollar_goes_on, IsFirst, HasNone}
use Rattle.jsonpath_paths.specs.token.Reading.{closing, first}
use Rattle.jsonpath_paths.specs.text.Spans.{IsSpan}
use Rattle.jsonpath_paths.specs.text.Characters.{byte_len, byte_len_is, bytes_at, is_no_stop}
use Rattle.jsonpath_paths.specs.token.Tokens.{TokensAt, no_token, one_token, lexeme}
use Rattle.jsonpath_paths.specs.declared.text.str_reader.StrRange.{StrRange}
use Rattle.jsonpath_paths.specs.declared.token.tokens.Kind.{Kind}
use Rattle.jsonpath_paths.specs.declared.token.tokens.Kind.TheVariants as k
use Rattle.jsonpath_paths.specs.declared.token.tokens.Lexeme.{Lexeme}
use Rattle.jsonpath_paths.proofs.tree.ElsewhereLemmas.{Along, at_rest, one_more}
use Rattle.jsonpath_paths.proofs.token.FoundLemmas.{first_or_none, closing_closed}
use Rattle.jsonpath_paths.proofs.token.LongestLemmas.{same_text, closed_covers}
use Rattle.jsonpath_paths.proofs.token.ReadingLemmas.{more_at}
use Rattle.jsonpath_paths.proofs.tree.SpanNameLemmas.{span_is}
use Rattle.jsonpath_paths.proofs.token.TokenizedLemmas.{found_one, read_so}

-- ---- fronts of two lists put together

take_past : (n : ℕ) (xs ys : List ℕ) (y : ℕ) → length xs < n → (zs : List ℕ) × (take n (xs ++ y ∷ ys) ≡ xs ++ y ∷ zs)
take_past zero xs ys y h = absurd (omega arith)
take_past (suc n) [] ys y h = (take n ys, refl)
take_past (suc n) (x ∷ xs) ys y h = let r = take_past n xs ys y (omega arith) in (r.0, ap (λ zs. x ∷ zs) r.1)

-- ---- which tokens have a closing parenthesis behind their first character

abbrev has_close : List ℕ → Bool
has_close [] = false
has_close (c ∷ cs) = c == 41 || has_close cs

has_close_in : (xs ys : List ℕ) → has_close (xs ++ 41 ∷ ys) ≡ true
has_close_in [] ys = refl
has_close_in (x ∷ xs) ys = or_right (x == 41) (has_close (xs ++ 41 ∷ ys)) (has_close_in xs ys)

no_close : (test : ℕ → Bool) (xs : List ℕ) → test 41 ≡ false → all_pass test xs ≡ true → has_close xs ≡ false
no_close test [] e h = refl
no_close test (x ∷ xs) e h =
    let both = and_parts (test x) (all_pass test xs) h in
    let other : (x == 41) ≡ false = false_from_ne_true (x == 41) (λ t. let same : x ≡ 41 = eqb-true x 41 t in cc (e, both.0, ap test same)) in
    or_from (x == 41) (has_close xs) other (no_close test xs e both.1)

abbrev IsQuote : ℕ → Type 0
IsQuote q = (q ≡ 34) ⊎ (q ≡ 39)

abbrev ClosedText : ℕ → List ℕ → Type 0
ClosedText c cs = (q : ℕ) × IsQuote q × (c ≡ q) × (closed q cs ≡ true)

apart : (b : Bool) → b ≡ true → b ≡ false → ⊥
apart b h i = cc

bare : (c : ℕ) (cs xs : List ℕ) → bytes_eq (c ∷ cs) xs ≡ true → has_close (drop 1 xs) ≡ false → has_close cs ≡ true → ClosedText c cs
bare c cs xs h none some = absurd (apart (has_close cs) some (ap (λ ys. has_close (drop 1 ys)) (same_text (c ∷ cs) xs h) ∙ none))

dollar_tail : (cs : List ℕ) → dollar_goes_on cs ≡ true → all_pass is_no_stop cs ≡ true
dollar_tail cs h = grind arith

-- only a quoted text has one
only_quoted : (kind : Kind) (c : ℕ) (cs : List ℕ) → is_token kind (c ∷ cs) ≡ true → has_close cs ≡ true → ClosedText c cs
only_quoted k.Key c cs h some = search (rules, arith, and_parts, apart, dollar_tail, no_close)
only_quoted k.Whitespace c cs h some = absurd (apart (has_close cs) some (no_close is_whitespace cs refl (and_parts (is_whitespace c) (all_pass is_whitespace cs) h).1))
only_quoted k.DoubleQuoted c cs h some = let both = and_parts (c == 34) (closed 34 cs) h in (34, inl refl, eqb-true c 34 both.0, both.1)
only_quoted k.SingleQuoted c cs h some = let both = and_parts (c == 39) (closed 39 cs) h in (39, inr refl, eqb-true c 39 both.0, both.1)
only_quoted k.Absolute c cs h some = bare c cs (codes "$") h refl some
only_quoted k.Dot c cs h some = bare c cs (codes ".") h refl some
only_quoted k.At c cs h some = bare c cs (codes "@") h refl some
only_quoted k.OpenArray c cs h some = bare c cs (codes "[") h refl some
only_quoted k.CloseArray c cs h some = bare c cs (codes "]") h refl some
only_quoted k.Asterisk c cs h some = bare c cs (codes "*") h refl some
only_quoted k.Question c cs h some = bare c cs (codes "?") h refl some
only_quoted k.Comma c cs h some = bare c cs (codes ",") h refl some
only_quoted k.Split c cs h some = bare c cs (codes ":") h refl some
only_quoted k.OpenParenthesis c cs h some = bare c cs (codes "(") h refl some
only_quoted k.CloseParenthesis c cs h some = bare c cs (codes ")") h refl some
only_quoted k.Equal c cs h some = bare c cs (codes "==") h refl some
only_quoted k.GreaterOrEqual c cs h some = bare c cs (codes ">=") h refl some
only_quoted k.Greater c cs h some = bare c cs (codes ">") h refl some
only_quoted k.Little c cs h some = bare c cs (codes "<") h refl some
only_quoted k.LittleOrEqual c cs h some = bare c cs (codes "<=") h refl some
only_quoted k.NotEqual c cs h some = bare c cs (codes "!=") h refl some
only_quoted k.And c cs h some = bare c cs (codes "&&") h refl some
only_quoted k.Or c cs h some = bare c cs (codes "||") h refl some

-- ---- a quoted text ends with its quote

ends_quoted : (q d : ℕ) (xs : List ℕ) → closed q (xs ++ d ∷ []) ≡ true → (d == q) ≡ true
ends_quoted q d [] h = h
ends_quoted q d (x ∷ []) h = grind arith
ends_quoted q d (x ∷ y ∷ ys) h = grind (arith, ends_quoted q d ys, ends_quoted q d (y ∷ ys))

no_end : (q d : ℕ) → IsQuote q → (d == 34) ≡ false → (d == 39) ≡ false → (d == q) ≡ true → ⊥
no_end q d b double single h = grind arith

not_ended : (kind : Kind) (c d : ℕ) (xs : List ℕ) → (d == 34) ≡ false → (d == 39) ≡ false → has_close (xs ++ d ∷ []) ≡ true → is_token kind (c ∷ (xs ++ d ∷ [])) ≡ true → ⊥
not_ended kind c d xs double single some h = let q = only_quoted kind c (xs ++ d ∷ []) h some in no_end q.0 d q.1 double single (ends_quoted q.0 d xs q.3)

front_is : (n : ℕ) (cs ys zs : List ℕ) → cs ≡ ys ++ zs → n ≡ length ys → take n cs ≡ ys
front_is n cs ys zs e h = ap₂ (λ m xs. take m xs) h e ∙ take-append_seam ys zs

-- no token reaches the parenthesis that closes a filter
stays_within : (c : ℕ) (xs : List ℕ) (kind : Kind) (n : ℕ) → IsFirst (c ∷ (xs ++ 41 ∷ 93 ∷ [])) kind n → n ≤ suc (length xs)
stays_within c xs kind n h = by_size (ltb (suc (length xs)) n) refl
  where
    whole : List ℕ
    whole = c ∷ (xs ++ 41 ∷ 93 ∷ [])

    one : n ≡ suc (suc (length xs)) → ⊥
    one size =
        let here : take n whole ≡ c ∷ (xs ++ 41 ∷ []) =
        front_is n whole (c ∷ (xs ++ 41 ∷ [])) (93 ∷ []) (ap (λ ys. c ∷ ys) (sym (append_assoc xs (41 ∷ []) (93 ∷ [])))) (omega (arith, size, length-append xs (41 ∷ []))) in
        not_ended kind c 41 xs refl refl (has_close_in xs []) (ap (is_token kind) (sym here) ∙ h.token)

    two : n ≡ suc (suc (suc (length xs))) → ⊥
    two size =
        let same : whole ≡ c ∷ ((xs ++ 41 ∷ []) ++ 93 ∷ []) = ap (λ ys. c ∷ ys) (sym (append_assoc xs (41 ∷ []) (93 ∷ []))) in
        let here : take n whole ≡ c ∷ ((xs ++ 41 ∷ []) ++ 93 ∷ []) =
        front_is n whole (c ∷ ((xs ++ 41 ∷ []) ++ 93 ∷ [])) [] (same ∙ sym (append-nil (c ∷ ((xs ++ 41 ∷ []) ++ 93 ∷ [])))) (omega (arith, size, length-append (xs ++ 41 ∷ []) (93 ∷ []), length-append xs (41 ∷ []))) in
        let some : has_close ((xs ++ 41 ∷ []) ++ 93 ∷ []) ≡ true = ap has_close (append_assoc xs (41 ∷ []) (93 ∷ [])) ∙ has_close_in xs (93 ∷ []) in
        not_ended kind c 93 (xs ++ 41 ∷ []) refl refl some (ap (is_token kind) (sym here) ∙ h.token)

    by_size : (b : Bool) → ltb (suc (length xs)) n ≡ b → n ≤ suc (length xs)
    by_size false e = ltb-false (suc (length xs)) n e
    by_size true e =
        let past : suc (length xs) < n = ltb-true (suc (length xs)) n e in
        let most : n ≤ suc (suc (suc (length xs))) = omega (arith, h.within, length-append xs (41 ∷ 93 ∷ [])) in
        by_last (n == suc (suc (length xs))) refl past most
      where
        by_last : (b : Bool) → (n == suc (suc (length xs))) ≡ b → suc (length xs) < n → n ≤ suc (suc (suc (length xs))) → n ≤ suc (length xs)
        by_last b e past most = grind (arith, eqb-true, one, two)

-- ---- the first token before a closing parenthesis

counted : (kind other : Kind) (o : Option ℕ) (n : ℕ) → option_map {U = Kind × ℕ} (λ m. (kind, 1 + m)) o ≡ Some (other, n) → (m : ℕ) × (o ≡ Some m) × (1 + m ≡ n)
counted kind other o n h = grind arith

quoted_first : (q : ℕ) → IsQuote q → (cs : List ℕ) (kind : Kind) (n : ℕ) → first (q ∷ cs) ≡ Some (kind, n) → (m : ℕ) × (closing q cs ≡ Some m) × (1 + m ≡ n)
unfolding first
quoted_first q (inl e) cs kind n h =
    subst (λ x. (m : ℕ) × (closing x cs ≡ Some m) × (1 + m ≡ n)) (sym e) (counted k.DoubleQuoted kind (closing 34 cs) n (ap (λ x. first (x ∷ cs)) (sym e) ∙ h))
quoted_first q (inr e) cs kind n h =
    subst (λ x. (m : ℕ) × (closing x cs ≡ Some m) × (1 + m ≡ n)) (sym e) (counted k.SingleQuoted kind (closing 39 cs) n (ap (λ x. first (x ∷ cs)) (sym e) ∙ h))

some_alike : (o : Option ℕ) (n m : ℕ) → o ≡ Some n → o ≡ Some m → n ≡ m
some_alike o n m h i = cc

-- a quoted text that closes before the parenthesis closes there, whatever follows
closes_before : (q : ℕ) → IsQuote q → (xs after other : List ℕ) (kind : Kind) (n : ℕ) → IsFirst (q ∷ (xs ++ 41 ∷ other)) kind n → n ≤ suc (length xs)
    → (m : ℕ) × (closing q (xs ++ 41 ∷ after) ≡ Some m) × (m ≤ length xs)
closes_before q is xs after other kind n h small =
    let found = quoted_first q is (xs ++ 41 ∷ other) kind n (found_one (q ∷ (xs ++ 41 ∷ other)) kind n h) in
    let m : ℕ = found.0 in
    let low : m ≤ length xs = omega (arith, found.2, small) in
    let here : closed q (take m xs) ≡ true = ap (closed q) (sym (take-append-le m xs (41 ∷ other) low)) ∙ closing_closed q m (xs ++ 41 ∷ other) found.1 in
    let whole : take m xs ++ (drop m xs ++ 41 ∷ after) ≡ xs ++ 41 ∷ after = sym (append_assoc (take m xs) (drop m xs) (41 ∷ after)) ∙ ap (λ ys. ys ++ 41 ∷ after) (take-append-drop m xs) in
    (length (take m xs), ap (closing q) (sym whole) ∙ closed_covers q (take m xs) (drop m xs ++ 41 ∷ after) here, omega (arith, low, length-take m xs))

-- the same token is first, whatever stands behind the parenthesis
same_first : (c : ℕ) (xs after other : List ℕ) (kind : Kind) (n : ℕ) → IsFirst (c ∷ (xs ++ 41 ∷ other)) kind n → n ≤ suc (length xs) → IsFirst (c ∷ (xs ++ 41 ∷ after)) kind n
same_first c xs after other kind n h small = by_first (first_or_none now)
  where
    was : List ℕ
    was = c ∷ (xs ++ 41 ∷ other)

    now : List ℕ
    now = c ∷ (xs ++ 41 ∷ after)

    same_front : (m : ℕ) → m ≤ suc (length xs) → take m was ≡ take m now
    same_front m low = take-append-le m (c ∷ xs) (41 ∷ other) low ∙ sym (take-append-le m (c ∷ xs) (41 ∷ after) low)

    token : is_token kind (take n now) ≡ true
    token = ap (is_token kind) (sym (same_front n small)) ∙ h.token

    within : n ≤ length now
    within = omega (arith, small, length-append xs (41 ∷ after))

    longer : (other_kind : Kind) (m : ℕ) → IsFirst now other_kind m → suc (length xs) < m → ⊥
    longer other_kind m f long =
        let cut = take_past m (c ∷ xs) after 41 long in
        let text = only_quoted other_kind c (xs ++ 41 ∷ cut.0) (ap (is_token other_kind) (sym cut.1) ∙ f.token) (has_close_in xs cut.0) in
        let first_here : IsFirst (text.0 ∷ (xs ++ 41 ∷ other)) kind n = subst (λ x. IsFirst (x ∷ (xs ++ 41 ∷ other)) kind n) text.2 h in
        let before = closes_before text.0 text.1 xs after other kind n first_here small in
        let whole : (xs ++ 41 ∷ cut.0) ++ drop m now ≡ xs ++ 41 ∷ after = ap (drop 1) (ap (λ ys. ys ++ drop m now) (sym cut.1) ∙ take-append-drop m now) in
        let later : closing text.0 (xs ++ 41 ∷ after) ≡ Some (length (xs ++ 41 ∷ cut.0)) = ap (closing text.0) (sym whole) ∙ closed_covers text.0 (xs ++ 41 ∷ cut.0) (drop m now) text.3 in
        absurd (omega (arith, before.2, some_alike (closing text.0 (xs ++ 41 ∷ after)) before.0 (length (xs ++ 41 ∷ cut.0)) before.1 later, length-append xs (41 ∷ cut.0)))

    by_size : (other_kind : Kind) (m : ℕ) → IsFirst now other_kind m → (b : Bool) → ltb (suc (length xs)) m ≡ b → IsFirst now kind n
    by_size other_kind m f true e = absurd (longer other_kind m f (ltb-true (suc (length xs)) m e))
    by_size other_kind m f false e =
        let low : m ≤ suc (length xs) = ltb-false (suc (length xs)) m e in
        let most = h.longest other_kind m (omega (arith, low, length-append xs (41 ∷ other))) (ap (is_token other_kind) (same_front m low) ∙ f.token) in
        let least = f.longest kind n within token in
        let same : m ≡ n = omega (arith, most.0, least.0) in
        subst (λ x. IsFirst now x n) (most.1 same) (subst (λ x. IsFirst now other_kind x) same f)

    by_first : ((other_kind : Kind) × (m : ℕ) × IsFirst now other_kind m) ⊎ HasNone now → IsFirst now kind n
    by_first (inl f) = by_size f.0 f.1 f.2 (ltb (suc (length xs)) f.1) refl
    by_first (inr none) = absurd (none kind n within token)

-- ---- the words before a closing parenthesis

abbrev pub Words : Type 0
Words = List (Kind × List ℕ)

-- the characters are these words, one after another, if a closing parenthesis follows
abbrev pub Reads : List ℕ → Words → Type 0
Reads cs [] = cs ≡ []
Reads cs (w ∷ ws) = (rest : List ℕ) × (cs ≡ w.1 ++ rest) × ((after : List ℕ) → IsFirst (cs ++ 41 ∷ after) w.0 (length w.1)) × Reads rest ws

-- the tokens of words from a byte position on, and those that follow
abbrev pub put : ℕ → Words → (ℕ → Lexemes) → Lexemes
put i [] more = more i
put i (w ∷ ws) more = lexeme w.0 i w.1 ∷ put (i + byte_len w.1) ws more

-- where they end
abbrev pub end : ℕ → Words → ℕ
end i [] = i
end i (w ∷ ws) = end (i + byte_len w.1) ws

abbrev pub close : ℕ → Lexeme
close i = lexeme k.CloseParenthesis i (41 ∷ [])

-- the closing bracket behind a closing parenthesis
abbrev pub bracket_behind : ℕ → Lexemes
bracket_behind i = lexeme k.CloseArray (i + byte_len (41 ∷ [])) (93 ∷ []) ∷ []

-- the tokens of what stands before `)]` are words and those two
split : (fuel pos : ℕ) (cs xs rest : List ℕ) (ps : Lexemes) → length xs < fuel → cs ≡ xs ++ 41 ∷ 93 ∷ [] → rest ≡ [] → TokensAt pos cs ps rest
    → (ws : Words) × Reads xs ws × (ps ≡ put pos ws (λ i. close i ∷ bracket_behind i))
split zero pos cs xs rest ps less e r h = absurd (omega arith)
split (suc fuel) pos cs [] rest ps less e r h = grind (arith, read_so)
split (suc fuel) pos cs (x ∷ xs) rest ps less e r (no_token none) = cc (e, r)
split (suc fuel) pos cs (x ∷ xs) rest ps less e r (one_token {kind = kind} {ps = qs} n first later) =
    let here : IsFirst (x ∷ (xs ++ 41 ∷ 93 ∷ [])) kind n = subst (λ ys. IsFirst ys kind n) e first in
    let small : n ≤ suc (length xs) = stays_within x xs kind n here in
    let some : 0 < n = (more_at pos cs (kind, n) (found_one cs kind n first)).0 in
    let word : List ℕ = take n (x ∷ xs) in
    let cut : take n cs ≡ word = ap (take n) e ∙ take-append-le n (x ∷ xs) (41 ∷ 93 ∷ []) small in
    let left : drop n cs ≡ drop n (x ∷ xs) ++ 41 ∷ 93 ∷ [] = ap (drop n) e ∙ drop-append-le n (x ∷ xs) (41 ∷ 93 ∷ []) small in
    let more = split fuel (pos + byte_len (take n cs)) (drop n cs) (drop n (x ∷ xs)) rest qs (omega (arith, less, some, length-drop n (x ∷ xs))) left r later in
    let size : n ≡ length word = omega (arith, small, length-take n (x ∷ xs)) in
    let stays : (after : List ℕ) → IsFirst (x ∷ (xs ++ 41 ∷ after)) kind (length word) =
    λ after. subst (λ m. IsFirst (x ∷ (xs ++ 41 ∷ after)) kind m) size (same_first x xs after (93 ∷ []) kind n here small) in (
      (kind, word) ∷ more.0,
      (drop n (x ∷ xs), sym (take-append-drop n (x ∷ xs)), stays, more.1),
      ap₂ (λ w (tail : Lexemes). lexeme kind pos w ∷ tail) cut (more.2 ∙ ap (λ w. put (pos + byte_len w) more.0 (λ i. close i ∷ bracket_behind i)) cut),
    )

pub fenced : (pos : ℕ) (xs : List ℕ) (ps : Lexemes) → TokensAt pos (xs ++ 41 ∷ 93 ∷ []) ps [] → (ws : Words) × Reads xs ws × (ps ≡ put pos ws (λ i. close i ∷ bracket_behind i))
fenced pos xs ps h = split (suc (length xs)) pos (xs ++ 41 ∷ 93 ∷ []) xs [] ps (omega arith) refl refl h

pub token_then : (pos : ℕ) (w later : List ℕ) (kind : Kind) (ps : Lexemes) → IsFirst (w ++ later) kind (length w) → TokensAt (pos + byte_len w) later ps [] → TokensAt pos (w ++ later) (lexeme kind pos w ∷ ps) []
token_then pos w later kind ps first more =
    let cut : take (length w) (w ++ later) ≡ w = take-append_seam w later in
    let left : drop (length w) (w ++ later) ≡ later = drop-append_seam w later in
    let behind : TokensAt (pos + byte_len (take (length w) (w ++ later))) (drop (length w) (w ++ later)) ps [] =
    subst (λ x. TokensAt (pos + byte_len x) (drop (length w) (w ++ later)) ps []) (sym cut) (subst (λ ys. TokensAt (pos + byte_len w) ys ps []) (sym left) more) in
    subst (λ x. TokensAt pos (w ++ later) (lexeme kind pos x ∷ ps) []) cut (one_token (length w) first behind)

-- the same words stand before any closing parenthesis
pub words_then : (ws : Words) (pos : ℕ) (xs after : List ℕ) (more : ℕ → Lexemes) → Reads xs ws → ((i : ℕ) → TokensAt i (41 ∷ after) (more i) []) → TokensAt pos (xs ++ 41 ∷ after) (put pos ws more) []
words_then [] pos xs after more h later = subst (λ ys. TokensAt pos (ys ++ 41 ∷ after) (more pos) []) (sym h) (later pos)
words_then (w ∷ ws) pos xs after more h later =
    let whole : xs ++ 41 ∷ after ≡ w.1 ++ (h.0 ++ 41 ∷ after) = ap (λ ys. ys ++ 41 ∷ after) h.1 ∙ append_assoc w.1 h.0 (41 ∷ after) in
    let first : IsFirst (w.1 ++ (h.0 ++ 41 ∷ after)) w.0 (length w.1) = subst (λ ys. IsFirst ys w.0 (length w.1)) whole (h.2 after) in
    subst (λ ys. TokensAt pos ys (put pos (w ∷ ws) more) []) (sym whole)
    (token_then pos w.1 (h.0 ++ 41 ∷ after) w.0 (put (pos + byte_len w.1) ws more) first (words_then ws (pos + byte_len w.1) h.0 after more h.3 later))

-- ---- words in two texts

-- from this byte on the text has these characters
abbrev pub At : List ℕ → ℕ → List ℕ → Type 0
At text i cs = (i ≤ length text) × (scalars cs ≡ true) × (drop i text ≡ encodes cs)

pub scalars_both : (xs ys : List ℕ) → scalars xs ≡ true → scalars ys ≡ true → scalars (xs ++ ys) ≡ true
scalars_both [] ys h i = i
scalars_both (x ∷ xs) ys h i = let both = and_parts _ _ h in and_from _ _ both.0 (scalars_both xs ys both.1 i)

pub scalars_parts : (xs ys : List ℕ) → scalars (xs ++ ys) ≡ true → (scalars xs ≡ true) × (scalars ys ≡ true)
scalars_parts [] ys h = (refl, h)
scalars_parts (x ∷ xs) ys h =
    let both = and_parts _ _ h in
    let more = scalars_parts xs ys both.1 in
    (and_from _ _ both.0 more.0, more.1)

pub at_next : (text : List ℕ) (i : ℕ) (w later : List ℕ) → At text i (w ++ later)
    → (let s : StrRange = record { pos = i; offset = byte_len w } in IsSpan text s × (bytes_at text s ≡ encodes w) × At text (i + byte_len w) later)
at_next text i w later h =
    let ok = scalars_parts w later h.1 in
    let parts : drop i text ≡ encodes w ++ encodes later = h.2 ∙ encodes-append w later in
    let utf8 : IsUtf8 (drop i text) = subst IsUtf8 (sym h.2) (w ++ later, (h.1, refl)) in
    let here = span_is text i w later h.0 ok.0 ok.1 utf8 parts in
    let bytes : take (byte_len w) (drop i text) ≡ encodes w =
    ap (take (byte_len w)) parts ∙ ap (λ n. take n (encodes w ++ encodes later)) (byte_len_is w) ∙ take-append_seam (encodes w) (encodes later) in
    (here.0, bytes, (here.0.within, ok.1, here.2))

pub at_end : (ws : Words) (text : List ℕ) (i : ℕ) (xs after : List ℕ) → Reads xs ws → At text i (xs ++ 41 ∷ after) → At text (end i ws) (41 ∷ after)
at_end [] text i xs after h at = subst (λ ys. At text i (ys ++ 41 ∷ after)) h at
at_end (w ∷ ws) text i xs after h at =
    let whole : xs ++ 41 ∷ after ≡ w.1 ++ (h.0 ++ 41 ∷ after) = ap (λ ys. ys ++ 41 ∷ after) h.1 ∙ append_assoc w.1 h.0 (41 ∷ after) in
    let next = at_next text i w.1 (h.0 ++ 41 ∷ after) (subst (At text i) whole at) in
    at_end ws text (i + byte_len w.1) h.0 after h.3 next.2

put_longer : (i : ℕ) (ws : Words) (more : ℕ → Lexemes) → length (more (end i ws)) < length (put i ws (λ j. close j ∷ more j))
put_longer i [] more = omega arith
put_longer i (w ∷ ws) more = omega (arith, put_longer (i + byte_len w.1) ws more)

-- the tokens of two such texts are the same, up to what follows the parenthesis
pub words_along : (ws : Words) (here there : List ℕ) (i j : ℕ) (xs after other : List ℕ) (more rest : ℕ → Lexemes) → Reads xs ws → At here i (xs ++ 41 ∷ after) → At there j (xs ++ 41 ∷ other)
    → Along here there (more (end i ws)) (rest (end j ws)) (put i ws (λ q. close q ∷ more q)) (put j ws (λ q. close q ∷ rest q))
words_along [] here there i j xs after other more rest h at at' =
    let x = at_next here i (41 ∷ []) after (subst (λ ys. At here i (ys ++ 41 ∷ after)) h at) in
    let y = at_next there j (41 ∷ []) other (subst (λ ys. At there j (ys ++ 41 ∷ other)) h at') in
    one_more refl (record { in_first = x.0; in_second = y.0; bytes = x.1 ∙ sym y.1 }) (λ _. refl) at_rest
words_along (w ∷ ws) here there i j xs after other more rest h at at' =
    let whole : (tail : List ℕ) → xs ++ 41 ∷ tail ≡ w.1 ++ (h.0 ++ 41 ∷ tail) = λ tail. ap (λ ys. ys ++ 41 ∷ tail) h.1 ∙ append_assoc w.1 h.0 (41 ∷ tail) in
    let x = at_next here i w.1 (h.0 ++ 41 ∷ after) (subst (At here i) (whole after) at) in
    let y = at_next there j w.1 (h.0 ++ 41 ∷ other) (subst (At there j) (whole other) at') in
    one_more refl (record { in_first = x.0; in_second = y.0; bytes = x.1 ∙ sym y.1 }) (λ e. absurd (omega (arith, e, put_longer (i + byte_len w.1) ws more)))
    (words_along ws here there (i + byte_len w.1) (j + byte_len w.1) h.0 after other more rest h.3 x.2 y.2)
