-- Items that are moved down in a list by exchanges.
use Rattle.std.proofs.Common.{◌≡◌, ℕ, ◌+◌, ◌<◌, ◌≤◌, List, [], ◌∷◌, ◌++◌, length, get_or, take, drop, set, refl, sym, ap, ◌∙◌, append_assoc, arith}
use Rattle.std.specs.List.{SwappedAt}
use Rattle.std.specs.Prelude.{slice_range}
use Rattle.std.proofs.lemmas.Bool.{ltb-false}
use Rattle.std.proofs.lemmas.List.{drop-drop, take-set-le, take_more_set, drop-set-lt, length-set, get_or-drop, take-set}
use Rattle.std.proofs.lemmas.List.Edits.{between_more}

module _ {X : Type 0} (d : X) where
  take_exchanged : (xs : List X) (a i : ℕ) (y : X) → a ≤ i → i < length xs → (a ≡ i → y ≡ get_or xs i d) → take (a + 1) (set (set xs a (get_or xs i d)) i y) ≡ take a xs ++ get_or xs i d ∷ []
  take_exchanged xs a i y le lt same = grind (arith, length-set, ltb-false, take-set, take-set-le, take_more_set)

  -- after an exchange with a place before it, an item stands there, and what comes after stays
  take_swapped : (xs ys : List X) (a i : ℕ) → a ≤ i → i < length xs → SwappedAt xs ys a i → take (a + 1) ys ≡ take a xs ++ get_or xs i d ∷ []
  take_swapped xs ys a i le lt h = rw (h.3 d) (take_exchanged xs a i (get_or xs a d) le lt (λ is. rw is refl))

  pub drop_swapped : (xs ys : List X) (a i : ℕ) → a ≤ i → SwappedAt xs ys a i → drop (i + 1) ys ≡ drop (i + 1) xs
  drop_swapped xs ys a i le h = rw (h.3 d) (drop-set-lt (i + 1) (set xs a (get_or xs i d)) i (get_or xs a d) (omega arith) ∙ drop-set-lt (i + 1) xs a (get_or xs i d) (omega arith))

  get_or_dropped : (xs ys : List X) (i : ℕ) → drop i xs ≡ drop i ys → get_or xs i d ≡ get_or ys i d
  get_or_dropped xs ys i e =
      ap (λ (n : ℕ). get_or xs n d) (let same : i ≡ i + 0 = omega arith in same) ∙ sym (get_or-drop i xs 0 d) ∙ ap (λ (zs : List X). get_or zs 0 d) e ∙ get_or-drop i ys 0 d
      ∙ ap (λ (n : ℕ). get_or ys n d) (let same : i + 0 ≡ i = omega arith in same)

  -- one item more is moved down
  pub moved_more : (first xs ys : List X) (kept next end i : ℕ) → next ≤ i → end ≤ i → i < length first → length xs ≡ length first
      → take end xs ≡ take kept first ++ slice_range first next i → drop i xs ≡ drop i first → SwappedAt xs ys end i
      → take (end + 1) ys ≡ take kept first ++ slice_range first next (i + 1)
  moved_more first xs ys kept next end i from to lt same front back h =
      take_swapped xs ys end i to (omega arith) h
      ∙ ap (λ (zs : List X). zs ++ get_or xs i d ∷ []) front
      ∙ append_assoc (take kept first) (slice_range first next i) (get_or xs i d ∷ [])
      ∙ ap (λ (z : X). take kept first ++ (slice_range first next i ++ z ∷ [])) (get_or_dropped xs first i back)
      ∙ ap (λ (zs : List X). take kept first ++ zs) (sym (between_more first next i d from lt))

  pub moved_rest : (first xs ys : List X) (end i : ℕ) → end ≤ i → drop i xs ≡ drop i first → SwappedAt xs ys end i → drop (i + 1) ys ≡ drop (i + 1) first
  moved_rest first xs ys end i to back h = drop_swapped xs ys end i to h ∙ one_more
    where
      one_more : drop (i + 1) xs ≡ drop (i + 1) first
      one_more = sym (drop-drop 1 i xs) ∙ ap (drop 1) back ∙ drop-drop 1 i first
