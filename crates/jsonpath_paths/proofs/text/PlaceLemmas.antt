-- A step over one character.
use Rattle.std.proofs.Common.{◌≡◌, ℕ, ◌+◌, ◌-◌, ◌≤◌, List, [], ◌∷◌, ◌++◌, length, drop, sym, ◌∙◌, ap, arith, length-append, length-drop, add-zero}
use Rattle.std.specs.Prelude.{encode_utf8}
use Rattle.std.specs.Char.{len_utf8}
use Rattle.std.specs.Str.{IsUtf8, chars}
use Rattle.std.proofs.lemmas.List.{nil_from_length}
use Rattle.std.proofs.lemmas.Str.{drop_past_char, chars_past_char, length-encode, chars-nil}
use Rattle.jsonpath_paths.specs.text.TextPlace.{Place, ahead, past}

pub within_past : (text after : List ℕ) (i c : ℕ) → i ≤ length text → drop i text ≡ encode_utf8 c ++ after → i + len_utf8 c ≤ length text
within_past text after i c h e =
    let n = ap length e ∙ length-append (encode_utf8 c) after in
    omega (arith, n, length-drop i text, length-encode c)

-- what a character takes is what is no longer ahead
pub width_of : (rest behind after : List ℕ) (c : ℕ) → rest ≡ encode_utf8 c ++ after → behind ≡ after → length rest - length behind ≡ len_utf8 c
width_of rest behind after c e f =
    let n = ap length e ∙ length-append (encode_utf8 c) after in
    let m = ap length f in
    omega (arith, n, m, length-encode c)

pub ahead_past : (p : Place) (after : List ℕ) (c : ℕ) → IsUtf8 (drop p.pos p.text) → drop p.pos p.text ≡ encode_utf8 c ++ after → ahead p ≡ c ∷ ahead (past p (c ∷ []))
unfolding ahead
ahead_past p after c u e =
    let rest = drop_past_char p.text after p.pos c e in
    chars_past_char (drop p.pos p.text) after c u e ∙ ap (λ bs. c ∷ chars bs) (sym (ap (λ n. drop (p.pos + n) p.text) (add-zero (len_utf8 c)) ∙ rest))

pub ahead_nil : (p : Place) → length (drop p.pos p.text) ≡ 0 → ahead p ≡ []
unfolding ahead
ahead_nil p h = ap chars (nil_from_length _ h) ∙ chars-nil

-- the place behind one character, by its fields
pub past_one : (p : Place) (n c : ℕ) → n ≡ len_utf8 c → (let new : Place = record { text = p.text; pos = p.pos + n } in new ≡ past p (c ∷ []))
past_one p n c e = ap (λ n. let new : Place = record { text = p.text; pos = p.pos + n } in new) (e ∙ sym (add-zero (len_utf8 c)))
