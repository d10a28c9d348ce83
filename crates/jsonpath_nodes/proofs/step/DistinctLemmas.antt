-- What holds of each element of a list, and lists no two of whose elements meet a test: joined, mapped and filtered ones.
use Rattle.std.proofs.Common.{◌≡◌, List, [], ◌∷◌, ◌++◌, map, Bool, false, arith}
use Rattle.std.specs.Prelude.{filter}
use Rattle.std.specs.List.{AllByRecursion, IsDistinct}

-- ---- each element

pub all_of : {X : Type 0} (P : X → Type 0) (xs : List X) → ((x : X) → P x) → AllByRecursion P xs
all_of P [] h = tt
all_of P (x ∷ xs) h = (h x, all_of P xs h)

pub anything : {X : Type 0} (xs : List X) → AllByRecursion (λ (x : X). Unit {0}) xs
anything xs = all_of (λ x. Unit {0}) xs (λ x. tt)

pub all_then : {X : Type 0} (P Q : X → Type 0) (xs : List X) → ((x : X) → P x → Q x) → AllByRecursion P xs → AllByRecursion Q xs
all_then P Q [] go h = tt
all_then P Q (x ∷ xs) go h = (go x h.0, all_then P Q xs go h.1)

pub all_both : {X : Type 0} (P Q R : X → Type 0) (xs : List X) → ((x : X) → P x → Q x → R x) → AllByRecursion P xs → AllByRecursion Q xs → AllByRecursion R xs
all_both P Q R [] go h k = tt
all_both P Q R (x ∷ xs) go h k = (go x h.0 k.0, all_both P Q R xs go h.1 k.1)

pub all_append : {X : Type 0} (P : X → Type 0) (xs ys : List X) → AllByRecursion P xs → AllByRecursion P ys → AllByRecursion P (xs ++ ys)
all_append P [] ys h k = k
all_append P (x ∷ xs) ys h k = (h.0, all_append P xs ys h.1 k)

pub all_map : {X Y : Type 0} (P : Y → Type 0) (to : X → Y) (xs : List X) → AllByRecursion (λ x. P (to x)) xs → AllByRecursion P (map to xs)
all_map P to [] h = tt
all_map P to (x ∷ xs) h = (h.0, all_map P to xs h.1)

pub all_filter : {X : Type 0} (P : X → Type 0) (test : X → Bool) (xs : List X) → AllByRecursion P xs → AllByRecursion P (filter test xs)
all_filter P test [] h = tt
all_filter {X} P test (x ∷ xs) h = grind (arith, all_filter P test xs h.1)

-- ---- no element of one list with one of another

abbrev pub AllPairs : {X : Type 0} → (X → X → Bool) → List X → List X → Type 0
AllPairs f xs ys = AllByRecursion (λ x. AllByRecursion (λ y. f x y ≡ false) ys) xs

pub pairs_nothing : {X : Type 0} (f : X → X → Bool) (xs : List X) → AllPairs f xs []
pairs_nothing f xs = anything xs

pub pairs_rest : {X : Type 0} (f : X → X → Bool) (y : X) (xs ys : List X) → AllPairs f xs (y ∷ ys) → AllPairs f xs ys
pairs_rest f y xs ys h = all_then (λ x. AllByRecursion (λ z. f x z ≡ false) (y ∷ ys)) (λ x. AllByRecursion (λ z. f x z ≡ false) ys) xs (λ x p. p.1) h

pub pairs_append : {X : Type 0} (f : X → X → Bool) (xs ys zs : List X) → AllPairs f xs ys → AllPairs f xs zs → AllPairs f xs (ys ++ zs)
pairs_append f xs ys zs h k = grind (arith, all_append, all_both)

pub pairs_map : {X Y : Type 0} (f : Y → Y → Bool) (P : X → Type 0) (to on : X → Y) (xs ys : List X) → ((x y : X) → P x → P y → f (to x) (on y) ≡ false)
    → AllByRecursion P xs → AllByRecursion P ys → AllPairs f (map to xs) (map on ys)
pairs_map f P to on xs ys go h k = grind (arith, all_map, all_then)

-- ---- no two elements of a list

pub distinct_append : {X : Type 0} (f : X → X → Bool) (xs ys : List X) → IsDistinct f xs → IsDistinct f ys → AllPairs f xs ys → IsDistinct f (xs ++ ys)
unfolding IsDistinct
distinct_append f [] ys h k p = k
distinct_append f (x ∷ xs) ys h k p = (all_append (λ y. f x y ≡ false) xs ys h.0 p.0, distinct_append f xs ys h.1 k p.1)

pub distinct_map : {X Y : Type 0} (f : Y → Y → Bool) (to : X → Y) (xs : List X) → IsDistinct (λ x y. f (to x) (to y)) xs → IsDistinct f (map to xs)
unfolding IsDistinct
distinct_map f to [] h = tt
distinct_map f to (x ∷ xs) h = (all_map (λ y. f (to x) y ≡ false) to xs h.0, distinct_map f to xs h.1)

pub distinct_filter : {X : Type 0} (f : X → X → Bool) (test : X → Bool) (xs : List X) → IsDistinct f xs → IsDistinct f (filter test xs)
unfolding IsDistinct
distinct_filter f test [] h = tt
distinct_filter {X} f test (x ∷ xs) h = grind (arith, all_filter, distinct_filter f test xs h.1)

-- where no two elements that differ meet the other test
pub distinct_other : {X : Type 0} (e f : X → X → Bool) (P : X → Type 0) (xs : List X) → ((x y : X) → P x → P y → e x y ≡ false → f x y ≡ false)
    → AllByRecursion P xs → IsDistinct e xs → IsDistinct f xs
unfolding IsDistinct
distinct_other e f P [] go k h = tt
distinct_other e f P (x ∷ xs) go k h = (all_both P (λ y. e x y ≡ false) (λ y. f x y ≡ false) xs (λ y. go x y k.0) k.1 h.0, distinct_other e f P xs go k.1 h.1)
