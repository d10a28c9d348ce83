-- A list cut into several.
use Rattle.std.specs.Prelude.{ℕ, List, [], ◌∷◌, drop, take}

-- the lists that have so many items each, and are the list one after another
abbrev pub cut : {A : Type 0} → List ℕ → List A → List (List A)
cut [] xs = []
cut (n ∷ ns) xs = take n xs ∷ cut ns (drop n xs)
