-- What stands at a span that begins and ends between characters.
use Rattle.std.proofs.Common.{◌≡◌, ◌≤◌, ◌<◌, ◌+◌, ℕ, Bool, true, false, not, ◌||◌, List, ◌++◌, length, take, drop, refl, sym, subst, ap, ◌∙◌, arith, length-append, length-drop, leb, ltb, slice_index, chars, IsUtf8, IsCharBoundary, drop-drop}
use Rattle.std.proofs.lemmas.Bool.{and_from, le-leb, ltb-true}
use Rattle.std.proofs.lemmas.Bool.Decides.{nat_tests}
use Rattle.std.proofs.lemmas.Str.{chars-encodes, IsCharBoundary-from_drop}
use Rattle.std.proofs.Math.Seq.{drop-append_seam, take-append_seam}
use lib.Utf8.{scalars, encodes}
use Rattle.jsonpath_paths.specs.text.Spans.{slice_at, is_boundary}
use Rattle.jsonpath_paths.specs.text.Characters.{byte_len, byte_len_is}

pub at_boundary : (text : List ℕ) (i : ℕ) → IsCharBoundary text i → is_boundary text i ≡ true
at_boundary text i h = and_from (leb i (length text)) _ (le-leb i (length text) h.0) (by_end (ltb i (length text)) refl)
  where
    byte : ℕ
    byte = slice_index text i

    by_byte : (b : Bool) → ltb byte 128 ≡ b → i < length text → (not true || b || leb 192 byte) ≡ true
    by_byte true e below = refl
    by_byte false e below = let high : 128 ≤ byte = grind (arith, nat_tests) in le-leb 192 byte (h.1 below high)

    by_end : (b : Bool) → ltb i (length text) ≡ b → (not b || ltb byte 128 || leb 192 byte) ≡ true
    by_end true e = by_byte (ltb byte 128) refl (ltb-true i (length text) e)
    by_end false e = refl

module _ (text : List ℕ) where
  -- what stands at the span of a token
  pub slice_is : (pos : ℕ) (front later : List ℕ) → pos ≤ length text → scalars front ≡ true → scalars later ≡ true → IsUtf8 (drop pos text) → drop pos text ≡ encodes front ++ encodes later
      → (chars (slice_at text (record { pos = pos; offset = byte_len front })) ≡ front) × (drop (pos + byte_len front) text ≡ encodes later) × (pos + byte_len front ≤ length text)
  unfolding slice_at
  slice_is pos front later within ok more u whole =
      let bytes : byte_len front ≡ length (encodes front) = byte_len_is front in
      let here : take (byte_len front) (drop pos text) ≡ encodes front =
      ap (take (byte_len front)) whole ∙ ap (λ n. take n (encodes front ++ encodes later)) bytes ∙ take-append_seam (encodes front) (encodes later) in
      let cut : drop (pos + byte_len front) text ≡ encodes later =
      sym (drop-drop (byte_len front) pos text) ∙ ap (drop (byte_len front)) whole ∙ ap (λ n. drop n (encodes front ++ encodes later)) bytes ∙ drop-append_seam (encodes front) (encodes later) in
      let size : pos + byte_len front ≤ length text = omega (arith, bytes, length-drop pos text, ap length whole, length-append (encodes front) (encodes later)) in
      let begins : is_boundary text pos ≡ true = at_boundary text pos (IsCharBoundary-from_drop text pos within u) in
      let behind : IsUtf8 (drop (pos + byte_len front) text) = subst IsUtf8 (sym cut) (later, (more, refl)) in
      let ends : is_boundary text (pos + byte_len front) ≡ true = at_boundary text (pos + byte_len front) (IsCharBoundary-from_drop text (pos + byte_len front) size behind) in
      (rw (begins, ends) (ap chars here ∙ chars-encodes front ok), cut, size)
