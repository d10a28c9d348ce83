-- The steps still to come, after one is taken.
use Rattle.std.proofs.Common.{◌≡◌, ℕ, ◌+◌, ◌<◌, ◌≤◌, List, [], ◌∷◌, length, take, drop, get_or, Some, ap, ◌∙◌, arith, add-one, suc}
use Rattle.std.specs.List.{slice_get}
use Rattle.std.proofs.Math.ListN.{drop_of_length-le}
use Rattle.std.proofs.Math.Seq.{drop-cons}
use Rattle.std.proofs.lemmas.List.{length-take, get_or-take}
use Rattle.std.proofs.lemmas.Option.{slice_get_within, get_or_from_slice_get}

module _ {X : Type 0} (xs : List X) (m : ℕ) where
  pub none_left : (i : ℕ) → length (take m xs) ≤ i → drop i (take m xs) ≡ []
  none_left i h = drop_of_length-le (take m xs) {i = i} h

  pub one_left : (i : ℕ) (x : X) → slice_get xs i ≡ Some x → i < m → drop i (take m xs) ≡ x ∷ drop (i + 1) (take m xs)
  one_left i x h below =
      let within = slice_get_within xs i x h in
      let long : i < length (take m xs) = omega (arith, within, below, length-take m xs) in
      let is : get_or (take m xs) i x ≡ x = get_or-take m xs i x below ∙ get_or_from_slice_get xs i x x h in
      rw add-one (drop-cons (take m xs) i x long ∙ ap (λ (y : X). y ∷ drop (suc i) (take m xs)) is)

  pub none_behind : (i k : ℕ) → i ≡ length xs + k → drop i (take m xs) ≡ []
  none_behind i k h = none_left i (omega (arith, h, length-take m xs))

  pub none_at_most : drop m (take m xs) ≡ []
  none_at_most = none_left m (omega (arith, length-take m xs))
