-- Digits without the zeros at their ends.
use Rattle.std.proofs.Common.{◌≡◌, ◌≢◌, ℕ, suc, ℤ, pos, Option, Some, None, ◌+◌, ◌-◌, ◌<◌, ◌≤◌, List, [], ◌∷◌, ◌++◌, take, drop, length, get_or, refl, sym, ap, ap₂, ◌∙◌, arith}
use Rattle.std.specs.Prelude.{IfSome, ◌-ℤ◌, ◌+ℤ◌}
use Rattle.std.proofs.Common.{take_all, get_or-drop, length-drop}
use Rattle.std.proofs.lemmas.List.{drop_more, get_or-take, length-append, length-take-le, take-append-drop}
use Rattle.fast_float.specs.Text.{Parts}
use Rattle.json_trees.specs.NumberKey.{zeros, power, IsPointed, IsTrailed}

one_more_zero : (xs : List ℕ) (i n : ℕ) → i < length xs → get_or xs i 0 ≡ 48 → drop (i + 1) xs ≡ zeros n → drop i xs ≡ zeros (suc n)
one_more_zero xs i n within zero later = drop_more xs i 0 within ∙ ap₂ (λ (y : ℕ) (ys : List ℕ). y ∷ ys) zero later

pub zero_before : (xs : List ℕ) (e : ℕ) → 0 < e → e ≤ length xs → get_or xs (e - 1) 0 ≡ 48 → drop e xs ≡ zeros (length xs - e) → drop (e - 1) xs ≡ zeros (length xs - (e - 1))
zero_before xs e some within zero later =
    let next : e - 1 + 1 ≡ e = omega arith in
    let count : suc (length xs - e) ≡ length xs - (e - 1) = omega arith in
    one_more_zero xs (e - 1) (length xs - e) (omega arith) zero (ap (λ n. drop n xs) next ∙ later) ∙ ap zeros count

pub trailed : (xs : List ℕ) (e : ℕ) → e ≤ length xs → drop e xs ≡ zeros (length xs - e) → (0 < e → get_or xs (e - 1) 0 ≢ 48) → IsTrailed xs (take e xs)
trailed xs e within rest last =
    let whole = length-take-le e xs within in (
      length xs - e,
      sym (take-append-drop e xs) ∙ ap (λ ys. take e xs ++ ys) rest,
      λ some is.
          let positive : 0 < e = omega (arith, whole, some) in
          let place : length (take e xs) - 1 ≡ e - 1 = omega (arith, whole) in
          last positive (sym (ap (λ n. get_or (take e xs) n 0) place ∙ get_or-take e xs (e - 1) 0 (omega arith)) ∙ is),
    )

pub first_is : (ds ys : List ℕ) → 0 < length ds → get_or (ds ++ ys) 0 0 ≡ get_or ds 0 0
first_is [] ys some = absurd (omega arith)
first_is (d ∷ ds) ys some = refl

-- the digits between the zeros in front and those at the end
pub pointed : (p : Parts) (xs ds : List ℕ) (lead : ℕ) (e : ℤ) → xs ≡ p.whole ++ p.fraction → take lead xs ≡ zeros lead → (lead < length xs → get_or xs lead 0 ≢ 48)
    → IsTrailed (take (length xs - lead) (drop lead xs)) ds → 0 < length ds → e ≡ (pos (length p.whole) -ℤ pos lead) +ℤ power p → IsPointed p ds e
pointed p xs ds lead e same front stops kept some moved =
    let whole : take (length xs - lead) (drop lead xs) ≡ drop lead xs = take_all (length xs - lead) (drop lead xs) (omega (arith, length-drop lead xs)) in
    let rest : drop lead xs ≡ ds ++ zeros kept.0 = sym whole ∙ kept.1 in
    let long : length (drop lead xs) ≡ length (ds ++ zeros kept.0) = ap (λ (ys : List ℕ). length ys) rest in
    let within : lead < length xs = omega (arith, long, some, length-drop lead xs, length-append ds (zeros kept.0)) in
    let start : lead + 0 ≡ lead = omega arith in
    let first : get_or xs lead 0 ≡ get_or ds 0 0 =
    sym (get_or-drop lead xs 0 0 ∙ ap (λ n. get_or xs n 0) start) ∙ ap (λ ys. get_or ys 0 0) rest ∙ first_is ds (zeros kept.0) some in
    record {
      lead = lead;
      trail = kept.0;
      cut = sym same ∙ sym (take-append-drop lead xs) ∙ ap₂ (λ (ys zs : List ℕ). ys ++ zs) front rest;
      some = some;
      first = λ is. stops within (first ∙ is);
      last = kept.2 some;
      moved = moved;
    }

pub some_weaker : {A : Type 0} {P Q : A → Type 0} (o : Option A) → ((x : A) → P x → Q x) → IfSome o P → IfSome o Q
some_weaker None f h = h
some_weaker (Some x) f h = f x h
