-- What a quoted text means, character by character.
use Rattle.std.proofs.Common.{◌≡◌, ℕ, ◌-◌, ◌==◌, Bool, true, false, List, [], ◌∷◌, ◌++◌, length, take, Option, Some, None, refl, sym, ap, ◌∙◌, append-nil, append_assoc, length-append, arith, MatchOption, chars, IsUtf8, encode_utf8_all, encode_utf8}
use Rattle.std.specs.List.{list_any}
use Rattle.std.proofs.lemmas.Bool.{or_parts}
use Rattle.std.proofs.lemmas.Str.{cons_from_encodes, length-le-encodes, encodes-chars, chars-nil, chars_past_char}
use Rattle.std.proofs.lemmas.List.{nil_from_length}
use Rattle.std.proofs.Math.Seq.{take-append_seam}
use Rattle.jsonpath_paths.specs.text.TextPlace.{ahead}
use Rattle.jsonpath_paths.specs.text.Characters.{backslash, is_quote, unescaped, name_of}

-- the characters still to come, with the backslash that was read before them
abbrev pub held : Bool → List ℕ → List ℕ
held true cs = backslash ∷ cs
held false cs = cs

pub ahead-start : (text : List ℕ) → ahead (record { text = text; pos = 0 }) ≡ chars text
unfolding ahead
ahead-start text = refl

-- ---- the last character

none_in : (es : List ℕ) → encode_utf8_all es ≡ [] → es ≡ []
none_in [] h = refl
none_in (e ∷ es) h = let some = length-le-encodes (e ∷ es) in let none : length (encode_utf8_all (e ∷ es)) ≡ 0 = ap length h in absurd (omega (arith, some, none))

last_char : (ds cs : List ℕ) (c : ℕ) → encode_utf8_all cs ≡ encode_utf8_all ds ++ encode_utf8 c → cs ≡ ds ++ c ∷ []
last_char [] cs c h =
    let one = cons_from_encodes cs [] c (h ∙ sym (append-nil (encode_utf8 c))) in one.1 ∙ ap (λ (es : List ℕ). c ∷ es) (none_in one.0 one.2)
last_char (d ∷ ds) cs c h =
    let one = cons_from_encodes cs (encode_utf8_all ds ++ encode_utf8 c) d (h ∙ append_assoc (encode_utf8 d) (encode_utf8_all ds) (encode_utf8 c)) in
    one.1 ∙ ap (λ (es : List ℕ). d ∷ es) (last_char ds one.0 c one.2)

take_but_last : (ds : List ℕ) (c : ℕ) → take (length (ds ++ c ∷ []) - 1) (ds ++ c ∷ []) ≡ ds
take_but_last ds c =
    let n : length (ds ++ c ∷ []) - 1 ≡ length ds = omega (arith, length-append ds (c ∷ [])) in
    ap (λ (k : ℕ). take k (ds ++ c ∷ [])) n ∙ take-append_seam ds (c ∷ [])

module _ {X : Type 0} (rest : X → List ℕ) where
  pub but_last : (r : Option ℕ) (s t : X) (text out : List ℕ) → IsUtf8 text → IsUtf8 out → text ≡ rest s → out ≡ rest t
      → MatchOption r ((length (rest s) ≡ 0) × (t ≡ s)) (λ c. rest s ≡ rest t ++ encode_utf8 c) → chars out ≡ take (length (chars text) - 1) (chars text)
  but_last None s t text out u v first last h =
      let empty : text ≡ [] = first ∙ nil_from_length (rest s) h.0 in
      let none : out ≡ [] = last ∙ ap rest h.1 ∙ sym first ∙ empty in
      let no_chars : chars [] ≡ [] = chars-nil in
      rw (none, empty, no_chars) refl
  but_last (Some c) s t text out u v first last h =
      let split : text ≡ out ++ encode_utf8 c = first ∙ h ∙ ap (λ (xs : List ℕ). xs ++ encode_utf8 c) (sym last) in
      let whole : chars text ≡ chars out ++ c ∷ [] =
      last_char (chars out) (chars text) c (encodes-chars text u ∙ split ∙ ap (λ (xs : List ℕ). xs ++ encode_utf8 c) (sym (encodes-chars out v))) in
      sym (take_but_last (chars out) c) ∙ ap (λ (cs : List ℕ). take (length cs - 1) cs) (sym whole)

-- ---- the backslashes

pub unescaped-plain : (cs : List ℕ) → list_any (λ c. c == backslash) cs ≡ false → unescaped cs ≡ cs
unescaped-plain (c ∷ d ∷ cs) h =
    let parts = or_parts (c == backslash) (list_any (λ e. e == backslash) (d ∷ cs)) h in
    rw parts.0 (ap (λ (es : List ℕ). c ∷ es) (unescaped-plain (d ∷ cs) parts.1))
unescaped-plain _ h = refl

-- a text that begins with a quote means what stands inside, up to its last character
pub name_of-quoted : (text later inner : List ℕ) (q : ℕ) → IsUtf8 text → text ≡ encode_utf8 q ++ later → is_quote q ≡ true
    → chars inner ≡ take (length (chars later) - 1) (chars later) → name_of (chars text) ≡ unescaped (chars inner)
name_of-quoted text later inner q u is quote inside =
    let all : chars text ≡ q ∷ chars later = chars_past_char text later q u is in
    rw (all, quote, inside) refl
