-- Lists of one length, made side by side.
use Rattle.std.proofs.Common.{List, [], ◌∷◌, ◌++◌}
use Rattle.jpath_words.specs.Arguments.{Pairwise}

-- one more of each
pub pairwise_more : {X Y : Type 0} → (R : X → Y → Type 0) (xs : List X) (ys : List Y) (x : X) (y : Y) → Pairwise R xs ys → R x y → Pairwise R (xs ++ x ∷ []) (ys ++ y ∷ [])
pairwise_more R [] [] x y are is = (is, tt)
pairwise_more R [] (z ∷ ys) x y are is = absurd are
pairwise_more R (w ∷ xs) [] x y are is = absurd are
pairwise_more R (w ∷ xs) (z ∷ ys) x y are is = (are.0, pairwise_more R xs ys x y are.1 is)
