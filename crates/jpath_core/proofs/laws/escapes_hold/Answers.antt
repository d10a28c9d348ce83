use Rattle.std.proofs.Common.{◌≡◌, ℕ, ◌/◌, ◌%◌, Bool, true, false, ◌||◌, ◌==◌, if◌then◌else◌, List, [], ◌∷◌, ◌++◌, refl, ap, ap₂, ◌∙◌, arith}
use Rattle.std.proofs.lemmas.Str.{encodes-chars}
use Rattle.std.specs.Char.{digit_char}
use Rattle.std.specs.Str.{chars, encode_utf8_all}
use Rattle.jpath_core.specs.Printable.{is_control, escape, printable_char, printable_chars, has_control}
use Rattle.jpath_core.proofs.laws.escapes_hold.Goals as goal

neither : (a b : Bool) → a ≡ false → b ≡ false → (a || b) ≡ false
neither a b h i = rw (h, i) refl

left : (a b : Bool) → (a || b) ≡ false → a ≡ false
left false b h = refl
left true b h = absurd (cc)

right : (a b : Bool) → (a || b) ≡ false → b ≡ false
right false b h = h
right true b h = absurd (cc)

digit_free : (n : ℕ) → is_control (digit_char (n % 16)) ≡ false
digit_free n = grind arith

-- by whether the character is a tab, a line feed, a carriage return
escape_free : (tab feed return : Bool) (c : ℕ)
    → has_control (if tab then 92 ∷ 116 ∷ [] else (if feed then 92 ∷ 110 ∷ [] else (if return then 92 ∷ 114 ∷ [] else 92 ∷ 117 ∷ 48 ∷ 48 ∷ digit_char ((c / 16) % 16) ∷ digit_char (c % 16) ∷ []))) ≡ false
escape_free true feed return c = refl
escape_free false true return c = refl
escape_free false false true c = refl
escape_free false false false c = rw (digit_free (c / 16), digit_free c) refl

char_free : (control : Bool) (c : ℕ) → is_control c ≡ control → has_control (if control then escape c else c ∷ []) ≡ false
char_free true c h = escape_free (c == 9) (c == 10) (c == 13) c
char_free false c h = rw (h) refl

both_free : (s t : List ℕ) → has_control s ≡ false → has_control t ≡ false → has_control (s ++ t) ≡ false
both_free [] t h i = i
both_free (c ∷ s) t h i = neither _ _ (left _ _ h) (both_free s t (right _ _ h) i)

free : (cs : List ℕ) → has_control (printable_chars cs) ≡ false
free [] = refl
free (c ∷ cs) = both_free (printable_char c) (printable_chars cs) (char_free (is_control c) c refl) (free cs)

char_kept : (control : Bool) (c : ℕ) → control ≡ false → (if control then escape c else c ∷ []) ≡ c ∷ []
char_kept false c h = refl
char_kept true c h = absurd (cc)

kept : (cs : List ℕ) → has_control cs ≡ false → printable_chars cs ≡ cs
kept [] h = refl
kept (c ∷ cs) h = ap₂ (λ (x y : List ℕ). x ++ y) (char_kept (is_control c) c (left _ _ h)) (kept cs (right _ _ h))

pub returns : goal.returns
returns c = λ text u. (free (chars text), λ h. ap encode_utf8_all (kept (chars text) h) ∙ encodes-chars text u)
