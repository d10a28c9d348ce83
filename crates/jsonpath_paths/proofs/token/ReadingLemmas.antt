-- A reading is its first lexeme and the reading behind it.
use Rattle.std.proofs.Common.{◌≡◌, ◌<◌, ◌≤◌, ℕ, zero, suc, ◌+◌, ◌-◌, true, List, [], ◌∷◌, ◌++◌, length, Option, Some, None, Result, Ok, Err, sym, ◌∙◌, ap, subst, refl, take, drop, arith, length-drop, append_assoc}
use Rattle.std.specs.Prelude.{option_map, IfOk, IfErr}
use Rattle.std.proofs.lemmas.List.{drop-drop, take-append-drop}
use Rattle.std.proofs.Math.Seq.{drop-append_seam}
use Rattle.std.proofs.lemmas.Bool.{and_parts}
use Rattle.std.specs.Str.{IsUtf8, chars, IsCharBoundary}
use Rattle.std.proofs.lemmas.Str.{encodes-chars, scalars-chars, chars-encodes, encodes-append, IsCharBoundary-from_drop}
use Rattle.std.proofs.lemmas.List.Elements.{All-push}
use lib.Utf8.{scalars, encodes}
use Rattle.jsonpath_paths.specs.text.TextPlace.{Place, ahead, past, span_to}
use Rattle.jsonpath_paths.specs.text.Characters.{byte_len, byte_len_is}
use Rattle.jsonpath_paths.specs.token.Reading.{Reading, reading_from, first, and_then, with_lexeme}
use Rattle.jsonpath_paths.specs.token.Refusals.{fault}
use Rattle.jsonpath_paths.specs.token.Tokens.{lexeme}
use Rattle.jsonpath_paths.specs.plan.NextToken.{next_at, next_by, reading, nothing_but}
use Rattle.jsonpath_paths.specs.text.Spans.{IsSpan, AreSpans, Tile}
use Rattle.jsonpath_paths.specs.declared.token.tokens.Kind.{Kind}
use Rattle.jsonpath_paths.specs.declared.token.tokens.Lexeme.{Lexeme}
use Rattle.jsonpath_paths.specs.declared.token.tokens.TokenError.{TokenError}
use Rattle.jsonpath_paths.specs.declared.text.str_reader.StrRange.{StrRange}
use Rattle.jsonpath_paths.proofs.token.FrontLemmas.{front_within, Within}

-- characters behind some

pub scalars_drop : (n : ℕ) (cs : List ℕ) → scalars cs ≡ true → scalars (drop n cs) ≡ true
scalars_drop zero cs h = h
scalars_drop (suc n) [] h = h
scalars_drop (suc n) (c ∷ cs) h = scalars_drop n cs (and_parts _ _ h).1

pub ahead_drop : (p : Place) (n : ℕ) → IsUtf8 (drop p.pos p.text) → ahead (past p (take n (ahead p))) ≡ drop n (ahead p)
unfolding ahead
ahead_drop p n u =
    let cs = chars (drop p.pos p.text) in
    let front = take n cs in
    let rest = drop n cs in
    let whole : drop p.pos p.text ≡ encodes front ++ encodes rest =
    sym (encodes-chars (drop p.pos p.text) u) ∙ (ap encodes (sym (take-append-drop n cs)) ∙ encodes-append front rest) in
    let cut : drop (p.pos + byte_len front) p.text ≡ encodes rest =
    sym (drop-drop (byte_len front) p.pos p.text) ∙ (ap (drop (byte_len front)) whole
    ∙ (ap (λ m. drop m (encodes front ++ encodes rest)) (byte_len_is front) ∙ drop-append_seam (encodes front) (encodes rest))) in
    ap chars cut ∙ chars-encodes rest (scalars_drop n cs (scalars-chars (drop p.pos p.text) u))

-- lexemes

skipped : (n pos : ℕ) (cs : List ℕ) → n ≤ length cs → reading_from n pos cs ≡ reading_from 0 pos (drop n cs)
skipped zero pos cs h = refl
skipped (suc n) pos [] h = absurd (omega arith)
skipped (suc n) pos (c ∷ cs) h = skipped n pos cs (omega arith)

drop_one : (n c : ℕ) (cs : List ℕ) → 0 < n → drop (n - 1) cs ≡ drop n (c ∷ cs)
drop_one n c cs h = grind arith

-- what a lexeme at the front leaves of a reading
pub more_at : (pos : ℕ) (cs : List ℕ) (f : Kind × ℕ) → first cs ≡ Some f
    → (0 < f.1) × (f.1 ≤ length cs) × (reading_from 0 pos cs ≡ and_then (lexeme f.0 pos (take f.1 cs)) (reading_from 0 (pos + byte_len (take f.1 cs)) (drop f.1 cs)))
unfolding first
more_at pos [] f h = cc
more_at pos (c ∷ cs) f h =
    let w : Within (Some f) (suc (length cs)) = subst (λ o. Within o (suc (length cs))) h (front_within c cs) in (
      w.0,
      w.1,
      ap (λ o. with_lexeme o pos (c ∷ cs) (λ left next. reading_from left next cs)) h
          ∙ ap (and_then (lexeme f.0 pos (take f.1 (c ∷ cs)))) (skipped (f.1 - 1) (pos + byte_len (take f.1 (c ∷ cs))) cs (omega arith)
          ∙ ap (reading_from 0 (pos + byte_len (take f.1 (c ∷ cs)))) (drop_one f.1 c cs w.0)),
    )

pub end_at : (pos : ℕ) (cs : List ℕ) → first cs ≡ None → reading_from 0 pos cs ≡ nothing_but cs
unfolding first
end_at pos cs h = grind arith

span_is : (p : Place) (cs : List ℕ) → (let s : StrRange = record { pos = p.pos; offset = byte_len cs } in span_to p (past p cs) ≡ s)
span_is p cs = ap (λ n. let s : StrRange = record { pos = p.pos; offset = n } in s) (omega arith)

abbrev Moves : Place → Result Lexeme TokenError × Place → Type 0
Moves p z = IfOk z.0 (λ x. (reading p ≡ and_then x (reading z.1)) × (length (ahead z.1) < length (ahead p)) × (x.span ≡ span_to p z.1) × (z.1.text ≡ p.text) × (p.pos ≤ z.1.pos))

pub next_more : (p q : Place) (r : Result Lexeme TokenError) → IsUtf8 (drop p.pos p.text) → next_at p ≡ (r, q)
    → IfOk r (λ x. (reading p ≡ and_then x (reading q)) × (length (ahead q) < length (ahead p)) × (x.span ≡ span_to p q) × (q.text ≡ p.text) × (p.pos ≤ q.pos))
next_more p q r u h = subst (Moves p) h (by_first (first (ahead p)) refl)
  where
    by_first : (o : Option (Kind × ℕ)) → first (ahead p) ≡ o → Moves p (next_by (option_map (λ f. (f.0, past p (take f.1 (ahead p)))) o) p)
    by_first None e = tt
    by_first (Some f) e =
        let cut = take f.1 (ahead p) in
        let m = more_at p.pos (ahead p) f e in
        let left = ahead_drop p f.1 u in
        let same = ap (λ s. let x : Lexeme = record { kind = f.0; span = s } in x) (span_is p cut) in (
          m.2 ∙ (ap (λ cs. and_then (lexeme f.0 p.pos cut) (reading_from 0 (p.pos + byte_len cut) cs)) (sym left) ∙ ap (λ x. and_then x (reading (past p cut))) (sym same)),
          omega (arith, m.0, m.1, ap length left, length-drop f.1 (ahead p)),
          refl,
          refl,
          omega arith,
        )

pub next_end : (p q : Place) (r : Result Lexeme TokenError) → next_at p ≡ (r, q) → IfErr r (λ e. (reading p ≡ nothing_but (ahead p)) × (q ≡ p) × (e ≡ fault p.pos (ahead p)))
next_end p q r h = grind (arith, end_at)

pub span_fits : (p q : Place) (x : StrRange) → x ≡ span_to p q → q.text ≡ p.text → p.pos ≤ q.pos → q.pos ≤ length q.text → IsUtf8 (drop p.pos p.text) → IsUtf8 (drop q.pos q.text) → IsSpan q.text x
span_fits p q x e t h w u v =
    let reaches : p.pos + (q.pos - p.pos) ≡ q.pos = omega arith in
    let start = subst (λ t. IsCharBoundary t p.pos) (sym t) (IsCharBoundary-from_drop p.text p.pos (omega (arith, ap length t)) u) in
    let end = subst (IsCharBoundary q.text) (sym reaches) (IsCharBoundary-from_drop q.text q.pos w v) in
    let spanned : IsSpan q.text (span_to p q) = record { within = omega arith; start = start; end = end } in
    subst (IsSpan q.text) (sym e) spanned

pub lexeme_more : (p q : Place) (r : Result Lexeme TokenError) → IsUtf8 (drop p.pos p.text) → IsUtf8 (drop q.pos q.text) → q.pos ≤ length q.text → next_at p ≡ (r, q)
    → IfOk r (λ x. (reading p ≡ and_then x (reading q)) × IsSpan q.text x.span)
lexeme_more p q (Ok x) u v w h = let m = next_more p q (Ok x) u h in (m.0, span_fits p q x.span m.2 m.3 m.4 w u v)
lexeme_more p q (Err e) u v w h = tt

pub lexeme_shorter : (p q : Place) (r : Result Lexeme TokenError) → IsUtf8 (drop p.pos p.text) → next_at p ≡ (r, q) → IfOk r (λ x. length (ahead q) < length (ahead p))
lexeme_shorter p q (Ok x) u h = (next_more p q (Ok x) u h).1
lexeme_shorter p q (Err e) u h = tt

-- lexemes put behind those found

abbrev pub behind : List Lexeme → Reading → Reading
behind found r = record { lexemes = found ++ r.lexemes; rest = r.rest }

pub behind_more : (found : List Lexeme) (x : Lexeme) (r : Reading) → behind found (and_then x r) ≡ behind (found ++ x ∷ []) r
behind_more found x r = ap (λ ps. let z : Reading = record { lexemes = ps; rest = r.rest } in z) (sym (append_assoc found (x ∷ []) r.lexemes))

-- the reading of a whole text
pub reading_all : (text : List ℕ) (p : Place) → p.text ≡ text → p.pos ≡ 0 → reading p ≡ reading_from 0 0 (chars text)
unfolding ahead
reading_all text p t z = ap (λ t. reading_from 0 p.pos (chars (drop p.pos t))) t ∙ ap (λ n. reading_from 0 n (chars (drop n text))) z

pub spans_more : (text : List ℕ) (ps : List Lexeme) (x : Lexeme) → AreSpans text ps → IsSpan text x.span → AreSpans text (ps ++ x ∷ [])
spans_more text ps x h i = All-push (λ p. IsSpan text p.span) ps x h i

pub tile_more : (from mid to : ℕ) (ps : List Lexeme) (x : Lexeme) → Tile from ps mid → x.span.pos ≡ mid → mid + x.span.offset ≡ to → Tile from (ps ++ x ∷ []) to
tile_more from mid to [] x h e f = (e ∙ sym h, ap (λ n. n + x.span.offset) h ∙ f)
tile_more from mid to (p ∷ ps) x h e f = (h.0, tile_more (from + p.span.offset) mid to ps x h.1 e f)

-- the span from one place that a reader was at to another
pub span_read : (p q : Place) (n m : ℕ) (x : StrRange) → n ≡ p.pos → m ≡ q.pos → (let s : StrRange = record { pos = n; offset = m - n } in x ≡ s) → q.text ≡ p.text → p.pos ≤ q.pos
    → m ≤ length q.text → IsUtf8 (drop n p.text) → IsUtf8 (drop m q.text) → IsSpan q.text x
span_read p q n m x e f s t h w u v =
    let same = s ∙ (ap (λ k. let z : StrRange = record { pos = k; offset = m - k } in z) e ∙ ap (λ k. let z : StrRange = record { pos = p.pos; offset = k - p.pos } in z) f) in
    span_fits p q x same t h (omega arith) (subst (λ k. IsUtf8 (drop k p.text)) e u) (subst (λ k. IsUtf8 (drop k q.text)) f v)
