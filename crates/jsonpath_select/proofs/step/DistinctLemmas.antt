-- No two of a list are the same: each is looked up in the set of those met before.
use Rattle.std.proofs.Common.{◌≡◌, ℕ, ◌+◌, ◌<◌, List, [], ◌∷◌, ◌++◌, map, take, get_or, length, add-one, Bool, true, false, cond, not, ◌||◌, Ordering, refl, sym, ap, ap₂, ◌∙◌, arith, take-suc}
use Rattle.std.specs.BTreeSet.{BTreeSet, contains}
use Rattle.std.specs.BTreeMap.{is_at}
use Rattle.std.specs.Cmp.{IsTotalOrder}
use Rattle.std.specs.List.{AllByRecursion, IsDistinct, list_any}
use Rattle.std.specs.Ordering.{eq_by_cmp}
use Rattle.std.proofs.lemmas.Cmp.{eq_by_cmp_equiv}
use Rattle.std.proofs.lemmas.List.{map-append}
use Rattle.std.proofs.lemmas.List.Folds.{list_any-append}
use Rattle.std.proofs.lemmas.Map.Keys.{IsDistinct-push}

pub all_snoc : {X : Type 0} (P : X → Type 0) (xs : List X) (x : X) → AllByRecursion P xs → P x → AllByRecursion P (xs ++ x ∷ [])
all_snoc P [] x h k = (k, tt)
all_snoc P (y ∷ xs) x h k = (h.0, all_snoc P xs x h.1 k)

module _ {K X : Type 0} {R : X → X → Ordering} (total : IsTotalOrder R) (g : K → X) where
  abbrev by_key : K → K → Ordering
  by_key a b = R (g a) (g b)

  -- no two of the list are the same, and the set has exactly what is equal to one of them
  abbrev pub AreMet : BTreeSet K → List X → Type 0
  AreMet seen xs = IsDistinct (eq_by_cmp R) xs × ((k : K) → contains by_key seen k ≡ list_any (eq_by_cmp R (g k)) xs)

  pub none_met : (seen : BTreeSet K) → seen.keys ≡ [] → AreMet seen []
  unfolding IsDistinct
  none_met seen empty = (tt, λ k. ap (list_any (is_at (by_key k))) empty)

  one_or : (a b : Bool) → cond a true b ≡ (b || (a || false))
  one_or a b = grind arith

  is_new : (b : Bool) → true ≡ not b → b ≡ false
  is_new b h = grind arith

  pub one_more_met : (seen next : BTreeSet K) (xs : List X) (k : K) (x : X) → g k ≡ x → true ≡ not (contains by_key seen k)
      → ((q : K) → contains by_key next q ≡ cond (is_at (by_key k) q) true (contains by_key seen q)) → AreMet seen xs → AreMet next (xs ++ x ∷ [])
  one_more_met seen next xs k x is fresh updated met =
      let none : list_any (eq_by_cmp R x) xs ≡ false = ap (λ y. list_any (eq_by_cmp R y) xs) (sym is) ∙ sym (met.1 k) ∙ is_new (contains by_key seen k) fresh in (
        IsDistinct-push (eq_by_cmp_equiv total) xs x met.0 none,
        λ q. updated q
            ∙ ap₂ (λ (a b : Bool). cond a true b) ((eq_by_cmp_equiv total).symm (g k) (g q) ∙ ap (eq_by_cmp R (g q)) is) (met.1 q)
            ∙ one_or (eq_by_cmp R (g q) x) (list_any (eq_by_cmp R (g q)) xs) ∙ sym (list_any-append (eq_by_cmp R (g q)) xs (x ∷ [])),
      )

pub taken : {A : Type 0} (xs : List A) (i : ℕ) (d y : A) → i < length xs → y ≡ get_or xs i d → take (i + 1) xs ≡ take i xs ++ y ∷ []
taken xs i d y inside is = ap (λ n. take n xs) (add-one i) ∙ take-suc xs i d inside ∙ ap (λ z. take i xs ++ z ∷ []) (sym is)

pub taken_more : {A B : Type 0} (f : A → B) (xs : List A) (i : ℕ) (d : A) (y : B) → i < length xs → y ≡ f (get_or xs i d) → map f (take (i + 1) xs) ≡ map f (take i xs) ++ y ∷ []
taken_more f xs i d y inside is =
    ap (map f) (taken xs i d (get_or xs i d) inside refl) ∙ map-append f (take i xs) (get_or xs i d ∷ []) ∙ ap (λ z. map f (take i xs) ++ z ∷ []) (sym is)
