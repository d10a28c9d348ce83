-- A list of locations, each once and in document order, keeps exactly the members.
use Rattle.std.proofs.Common.{◌≡◌, ℕ, List, [], ◌∷◌, Ordering, Equal, nat_cmp, is_eq, refl, sym, ap, ap₂, ◌∙◌, arith}
use Rattle.std.specs.Cmp.{ranked}
use Rattle.std.specs.Ordering.{ordering_then}
use Rattle.std.specs.Cmp.Lexicographic.{slice_cmp}
use Rattle.std.proofs.lemmas.Map.Text.{is_eq-slice_cmp}
use Rattle.std.proofs.lemmas.Slice.Eq.{bytes_eq-Decides}
use Rattle.jsonpath_nodes.specs.place.Location.{Step, name, index, Location, step_cmp, location_cmp}

-- ---- equal in document order is the same

pub names_same : (k l : List ℕ) → slice_cmp nat_cmp k l ≡ Equal → k ≡ l
names_same k l is = (bytes_eq-Decides k l).0 (sym (is_eq-slice_cmp k l) ∙ ap is_eq is)

nat_same : (i j : ℕ) → nat_cmp i j ≡ Equal → i ≡ j
nat_same i j is = ranked i j Equal (sym is)

pub step_same : (s t : Step) → step_cmp s t ≡ Equal → s ≡ t
step_same (name k) (name l) is = ap name (names_same k l is)
step_same (name k) (index j) is = cc
step_same (index i) (name l) is = cc
step_same (index i) (index j) is = ap index (nat_same i j is)

then_both : (o r : Ordering) → ordering_then o r ≡ Equal → (o ≡ Equal) × (r ≡ Equal)
then_both o r is = grind arith

pub location_same : (l m : Location) → location_cmp l m ≡ Equal → l ≡ m
location_same [] [] is = refl
location_same [] (t ∷ m) is = cc
location_same (s ∷ l) [] is = cc
location_same (s ∷ l) (t ∷ m) is =
    let parts = then_both (step_cmp s t) (location_cmp l m) is in
    ap₂ (λ (x : Step) (xs : Location). x ∷ xs) (step_same s t parts.0) (location_same l m parts.1)
