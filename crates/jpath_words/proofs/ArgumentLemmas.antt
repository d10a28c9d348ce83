-- A text between single quotes is one whole quoted text, which means it.
use Rattle.std.proofs.Common.{◌≡◌, ◌-◌, ◌==◌, ℕ, Bool, true, false, ◌||◌, List, [], ◌∷◌, ◌++◌, length, take, cond, refl, sym, ap, ◌∙◌, arith, length-append, append_assoc, append-nil}
use Rattle.std.specs.Str.{chars, IsUtf8, encode_utf8_all}
use Rattle.std.proofs.lemmas.Bool.{and_from, and_parts}
use Rattle.std.proofs.lemmas.Str.{chars-encodes, scalars-chars, encodes-append}
use Rattle.std.proofs.Math.Seq.{take-append_seam}
use lib.Utf8.{scalar, scalars, encode, encodes}
use Rattle.jsonpath_paths.specs.text.Characters.{name_of, unescaped}
use Rattle.jsonpath_paths.specs.token.Kinds.{closed, is_quoted}
use Rattle.jpath_words.specs.Arguments.{guarded_char, guarded}

pub inside : List ℕ → List ℕ
inside cs = guarded cs ++ 39 ∷ []

closed_past : (c : ℕ) (cs : List ℕ) → (c == 39) ≡ false → (c == 92) ≡ false → closed 39 cs ≡ true → closed 39 (c ∷ cs) ≡ true
closed_past c [] quote slash h = absurd (no h)
  where
    no : false ≡ true → ⊥
    no h = cc h
closed_past c (d ∷ ds) quote slash h = rw (quote, slash) h

closed_guarded : (cs : List ℕ) → closed 39 (inside cs) ≡ true
unfolding inside
closed_guarded [] = refl
closed_guarded (c ∷ cs) = by_test (c == 39) (c == 92) refl refl (closed_guarded cs)
  where
    by_test : (a b : Bool) → (c == 39) ≡ a → (c == 92) ≡ b → closed 39 (inside cs) ≡ true → closed 39 ((cond (a || b) (92 ∷ c ∷ []) (c ∷ []) ++ guarded cs) ++ 39 ∷ []) ≡ true
    by_test true b quote slash h = h
    by_test false true quote slash h = h
    by_test false false quote slash h = closed_past c (inside cs) quote slash h

unescaped_past : (c : ℕ) (cs : List ℕ) → (c == 92) ≡ false → unescaped (c ∷ cs) ≡ c ∷ unescaped cs
unescaped_past c [] h = refl
unescaped_past c (d ∷ cs) h = rw h refl

unguarded : (cs : List ℕ) → unescaped (guarded cs) ≡ cs
unguarded [] = refl
unguarded (c ∷ cs) = by_test (c == 39) (c == 92) refl (unguarded cs)
  where
    by_test : (a b : Bool) → (c == 92) ≡ b → unescaped (guarded cs) ≡ cs → unescaped (cond (a || b) (92 ∷ c ∷ []) (c ∷ []) ++ guarded cs) ≡ c ∷ cs
    by_test true b slash h = ap (λ ds. c ∷ ds) h
    by_test false true slash h = ap (λ ds. c ∷ ds) h
    by_test false false slash h = unescaped_past c (guarded cs) slash ∙ ap (λ ds. c ∷ ds) h

name_inside : (cs : List ℕ) → name_of (39 ∷ inside cs) ≡ cs
unfolding inside
name_inside cs =
    let size : length (guarded cs ++ 39 ∷ []) - 1 ≡ length (guarded cs) = omega (arith, length-append (guarded cs) (39 ∷ [])) in
    ap (λ n. unescaped (take n (guarded cs ++ 39 ∷ []))) size ∙ ap unescaped (take-append_seam (guarded cs) (39 ∷ [])) ∙ unguarded cs

scalars_both : (cs ds : List ℕ) → scalars cs ≡ true → scalars ds ≡ true → scalars (cs ++ ds) ≡ true
scalars_both [] ds h i = i
scalars_both (c ∷ cs) ds h i = let both = and_parts (scalar c) (scalars cs) h in and_from (scalar c) (scalars (cs ++ ds)) both.0 (scalars_both cs ds both.1 i)

guarded_scalars : (cs : List ℕ) → scalars cs ≡ true → scalars (guarded cs) ≡ true
guarded_scalars [] h = refl
guarded_scalars (c ∷ cs) h = let both = and_parts (scalar c) (scalars cs) h in scalars_both (guarded_char c) (guarded cs) (by_test ((c == 39) || (c == 92)) both.0) (guarded_scalars cs both.1)
  where
    by_test : (b : Bool) → scalar c ≡ true → scalars (cond b (92 ∷ c ∷ []) (c ∷ [])) ≡ true
    by_test true here = and_from (scalar c) true here refl
    by_test false here = and_from (scalar c) true here refl

-- the characters of a text between quotes
pub quoted_chars : (text quoted : List ℕ) → IsUtf8 text → quoted ≡ encode_utf8_all (39 ∷ inside (chars text)) → chars quoted ≡ 39 ∷ inside (chars text)
unfolding inside
quoted_chars text quoted utf8 is =
    ap chars is ∙ chars-encodes (39 ∷ (guarded (chars text) ++ 39 ∷ [])) (scalars_both (guarded (chars text)) (39 ∷ []) (guarded_scalars (chars text) (scalars-chars text utf8)) refl)

pub quoted_whole : (text quoted : List ℕ) → chars quoted ≡ 39 ∷ inside (chars text) → is_quoted 39 (chars quoted) ≡ true
quoted_whole text quoted is = ap (is_quoted 39) is ∙ closed_guarded (chars text)

pub quoted_means : (text quoted : List ℕ) → chars quoted ≡ 39 ∷ inside (chars text) → name_of (chars quoted) ≡ chars text
quoted_means text quoted is = ap name_of is ∙ name_inside (chars text)

-- one character more
pub guarded_more : (cs : List ℕ) (c : ℕ) → encode_utf8_all (39 ∷ guarded cs) ++ encode_utf8_all (guarded_char c) ≡ encode_utf8_all (39 ∷ guarded (cs ++ c ∷ []))
guarded_more cs c = sym (encodes-append (39 ∷ guarded cs) (guarded_char c)) ∙ ap (λ x. encode_utf8_all (39 ∷ x)) (sym (more cs))
  where
    more : (cs : List ℕ) → guarded (cs ++ c ∷ []) ≡ guarded cs ++ guarded_char c
    more [] = append-nil (guarded_char c)
    more (d ∷ ds) = ap (λ x. guarded_char d ++ x) (more ds) ∙ sym (append_assoc (guarded_char d) (guarded ds) (guarded_char c))

pub guarded_closed : (cs : List ℕ) → encode_utf8_all (39 ∷ guarded cs) ++ 39 ∷ [] ≡ encode_utf8_all (39 ∷ inside cs)
unfolding inside encode
guarded_closed cs = sym (encodes-append (39 ∷ guarded cs) (39 ∷ []))
