-- Characters that stand for themselves in a text, seen sixteen at a time by the mask of the bytes that don't.
use Rattle.std.proofs.Common.{rules, ◌≡◌, ℕ, ◌+◌, ◌<◌, ◌≤◌, ◌%◌, ◌^◌, Bool, true, false, ◌||◌, cond, List, [], ◌∷◌, map, length, get_or, refl, ap, ap₂, ◌∙◌, arith, inl, inr}
use Rattle.std.proofs.lemmas.Bool.{cases_lt}
use Rattle.std.proofs.lemmas.List.{length-map}
use Rattle.std.proofs.lemmas.Simd.{zip2_of_maps, map-map, mask_l-mod, length-chunk, trailing_mask_l, none_from_empty_mask, run_in_chunk_fails}
use Rattle.std.specs.List.{prefix_len}
use Rattle.std.specs.Prelude.{not}
use lib.Bits.{bit_or}
use lib.Count.{count_trailing_zeros}
use lib.Lanes.{zip2, mask_l, top, chunk}
use Rattle.json_recognizer.specs.Classes.{class_of, is_plain, is_stop}

-- a lane of a comparison
abbrev pub flag : Bool → ℕ
flag b = cond b 255 0

flags_or : (a b : Bool) → bit_or (flag a) (flag b) ≡ flag (a || b)
flags_or true true = refl
flags_or true false = refl
flags_or false true = refl
flags_or false false = refl

top_flag : (b : Bool) → top 7 (flag b) ≡ b
top_flag true = refl
top_flag false = refl

same_map : {A : Type 0} (f g : ℕ → A) → ((x : ℕ) → f x ≡ g x) → (xs : List ℕ) → map f xs ≡ map g xs
same_map f g same [] = refl
same_map f g same (x ∷ xs) = ap₂ (λ y ys. y ∷ ys) (same x) (same_map f g same xs)

pub either : (p q : ℕ → Bool) (v : List ℕ) {a b : List ℕ} → a ≡ map (λ x. flag (p x)) v → b ≡ map (λ x. flag (q x)) v → zip2 bit_or a b ≡ map (λ x. flag (p x || q x)) v
either p q v a b = zip2_of_maps bit_or (λ x. flag (p x)) (λ x. flag (q x)) v a b ∙ same_map _ _ (λ x. flags_or (p x) (q x)) v

pub masked : (p : ℕ → Bool) (v z : List ℕ) → length v ≤ 64 → z ≡ map (λ x. flag (p x)) v → mask_l (map (top 7) z) % 2 ^ 64 ≡ mask_l (map p v)
masked p v z short is =
    ap (λ l. mask_l l % 2 ^ 64) (ap (map (top 7)) is ∙ map-map (top 7) (λ x. flag (p x)) v ∙ same_map _ _ (λ x. top_flag (p x)) v) ∙ mask_l-mod (map p v) 64 (omega (arith, length-map v p))

plain_byte : (x : ℕ) → is_stop x ≡ false → is_plain (class_of x) ≡ true
plain_byte x h = search rules

further : (bytes : List ℕ) (at r : ℕ) → ((k : ℕ) → k < at → is_plain (class_of (get_or bytes k 0)) ≡ true) → ((k : ℕ) → at ≤ k → k < at + r → is_stop (get_or bytes k 0) ≡ false)
    → (k : ℕ) → k < at + r → is_plain (class_of (get_or bytes k 0)) ≡ true
further bytes at r before behind k below = elim (cases_lt k at) [
  | inl lt ↦ before k lt
  | inr le ↦ plain_byte (get_or bytes k 0) (behind k le below)
]

module _ (bytes : List ℕ) (at : ℕ) (room : at + 16 ≤ length bytes) (before : (k : ℕ) → k < at → is_plain (class_of (get_or bytes k 0)) ≡ true) where
  pub counted : (found : ℕ) → found ≡ mask_l (map is_stop (chunk at 16 bytes)) → 0 < found → count_trailing_zeros 64 found ≡ prefix_len (λ x. not (is_stop x)) (chunk at 16 bytes)
  counted found is some = ap (count_trailing_zeros 64) is ∙ trailing_mask_l is_stop 64 (chunk at 16 bytes) (omega (arith, length-chunk at 16 bytes room)) (omega (arith, is, some))

  pub stops_at : (found : ℕ) → found ≡ mask_l (map is_stop (chunk at 16 bytes)) → 0 < found → (k : ℕ) → k < at + count_trailing_zeros 64 found → is_plain (class_of (get_or bytes k 0)) ≡ true
  stops_at found is some = further bytes at (count_trailing_zeros 64 found) before (run_in_chunk_fails is_stop bytes at 16 (count_trailing_zeros 64 found) 0 room (counted found is some))

  pub none_stops : mask_l (map is_stop (chunk at 16 bytes)) ≡ 0 → (k : ℕ) → k < at + 16 → is_plain (class_of (get_or bytes k 0)) ≡ true
  none_stops none = further bytes at 16 before (none_from_empty_mask is_stop bytes at 16 0 room none)
