-- Lists cut from one, and the steps to nodes.
use Rattle.std.proofs.Common.{◌≡◌, ℕ, ◌+◌, ◌-◌, ◌<◌, ◌≤◌, List, [], ◌∷◌, ◌++◌, get_or, length, map, take, drop, sym, ap, ap₂, subst, ◌∙◌, append_assoc, append-nil, arith, length-append, length-drop}
use Rattle.std.proofs.lemmas.List.{drop-append-le, drop-map, drop_more, length-map, map-append, take-append-le, take-map, take_more}
use Rattle.std.proofs.lemmas.List.Sums.{sum_by-append}
use Rattle.std.proofs.Math.ListN.{drop_of_length-le}
use Rattle.std.proofs.Math.Seq.{take-length}
use Rattle.std.specs.List.{sum}
use Rattle.jsonpath_nodes.specs.place.Location.{Location}
use Rattle.jsonpath_nodes.specs.place.SpotPlace.{step_of}
use Rattle.jsonpath_nodes.specs.declared.place.spot.PathStep.{PathStep}
use Rattle.jsonpath_lib.specs.StepLists.{cut}
use Rattle.json_trees.specs.declared.targets.StepList.{StepList}

sum_first : (n : ℕ) (ns : List ℕ) → sum (n ∷ ns) ≡ n + sum ns
sum_first n ns = sum_by-append (λ k. k) (n ∷ []) ns ∙ ap (λ (m : ℕ). m + sum ns) (omega arith)

-- one more list at the end
cut_more : {A : Type 0} (ns : List ℕ) (xs ys : List A) → sum ns ≡ length xs → cut (ns ++ length ys ∷ []) (xs ++ ys) ≡ cut ns xs ++ ys ∷ []
cut_more [] [] ys e = ap (λ zs. zs ∷ []) (take-length ys)
cut_more [] (x ∷ xs) ys e = absurd (omega arith)
cut_more (n ∷ ns) xs ys e =
    let within : n ≤ length xs = omega (arith, sum_first n ns) in
    let left : sum ns ≡ length (drop n xs) = omega (arith, length-drop n xs, sum_first n ns) in
    ap₂ (λ zs zss. zs ∷ zss) (take-append-le n xs ys within) (ap (cut (ns ++ length ys ∷ [])) (drop-append-le n xs ys within) ∙ cut_more ns (drop n xs) ys left)

-- the steps `now` are those `before` and those to the node `d`
module _ {B : Type 0} (g : B → Location) (d : B) (before now : List PathStep) (more : map step_of now ≡ map step_of before ++ g d) where
  longer : length now ≡ length before + length (g d)
  longer = sym (length-map now step_of) ∙ ap length more ∙ length-append (map step_of before) (g d) ∙ ap (λ (n : ℕ). n + length (g d)) (length-map before step_of)

  count_is : (n : ℕ) → n ≡ length now - length before → n ≡ length (g d)
  count_is n is = omega (arith, longer)

  pub whole_more : (counts after : List ℕ) (n : ℕ) → n ≡ length now - length before → after ≡ counts ++ n ∷ [] → sum counts ≡ length before → sum after ≡ length now
  whole_more counts after n is all whole = ap sum all ∙ sum_by-append (λ k. k) counts (n ∷ []) ∙ omega (arith, longer)

  pub lists_more : (counts after : List ℕ) (n : ℕ) → n ≡ length now - length before → after ≡ counts ++ n ∷ [] → sum counts ≡ length before
      → (nodes : List B) (i : ℕ) → i < length nodes → d ≡ get_or nodes i d → cut counts (map step_of before) ≡ map g (take i nodes) → cut after (map step_of now) ≡ map g (take (i + 1) nodes)
  lists_more counts after n is all whole nodes i within there lists =
      let taken : take (i + 1) nodes ≡ take i nodes ++ d ∷ [] = take_more nodes i d within ∙ ap (λ y. take i nodes ++ y ∷ []) (sym there) in
      ap₂ cut (all ∙ ap (λ (k : ℕ). counts ++ k ∷ []) (count_is n is)) more
      ∙ cut_more counts (map step_of before) (g d) (whole ∙ sym (length-map before step_of))
      ∙ ap (λ (ls : List Location). ls ++ g d ∷ []) lists
      ∙ sym (ap (map g) taken ∙ map-append g (take i nodes) (d ∷ []))

-- one more of the lists is cut off
pub cut_off : (lists after : List StepList) (counts : List ℕ) (i : ℕ) (rest later : List PathStep) (list : StepList) (all : List Location)
    → i < length counts → list.steps.now ≡ take (get_or counts i 0) rest → later ≡ drop (get_or counts i 0) rest → after ≡ lists ++ list ∷ []
    → map (λ p. map step_of p.steps.now) lists ++ cut (drop i counts) (map step_of rest) ≡ all
    → map (λ p. map step_of p.steps.now) after ++ cut (drop (i + 1) counts) (map step_of later) ≡ all
cut_off lists after counts i rest later list all within front back more held =
    let f : StepList → Location = λ p. map step_of p.steps.now in
    let n : ℕ = get_or counts i 0 in
    let first : f list ≡ take n (map step_of rest) = ap (map step_of) front ∙ sym (take-map step_of n rest) in
    let behind : map step_of later ≡ drop n (map step_of rest) = ap (map step_of) back ∙ sym (drop-map step_of n rest) in
    ap₂ (λ (ls ms : List Location). ls ++ ms) (ap (map f) more ∙ map-append f lists (list ∷ [])) (ap (cut (drop (i + 1) counts)) behind)
    ∙ append_assoc (map f lists) (f list ∷ []) (cut (drop (i + 1) counts) (drop n (map step_of rest)))
    ∙ ap (λ (l : Location). map f lists ++ l ∷ cut (drop (i + 1) counts) (drop n (map step_of rest))) first
    ∙ sym (ap (λ (ns : List ℕ). map f lists ++ cut ns (map step_of rest)) (drop_more counts i 0 within))
    ∙ held

-- none is left to be cut off
pub all_cut : (lists : List StepList) (counts : List ℕ) (i : ℕ) (rest : List PathStep) (all : List Location) → length counts ≤ i
    → map (λ p. map step_of p.steps.now) lists ++ cut (drop i counts) (map step_of rest) ≡ all → map (λ p. map step_of p.steps.now) lists ≡ all
all_cut lists counts i rest all end held =
    let f : StepList → Location = λ p. map step_of p.steps.now in
    sym (ap (λ (ns : List ℕ). map f lists ++ cut ns (map step_of rest)) (drop_of_length-le counts end) ∙ append-nil (map f lists)) ∙ held

pub left_enough : (counts : List ℕ) (i : ℕ) (rest : List PathStep) → i < length counts → sum (drop i counts) ≤ length rest → get_or counts i 0 ≤ length rest
left_enough counts i rest within enough = omega (arith, subst (λ (ns : List ℕ). sum ns ≤ length rest) (drop_more counts i 0 within) enough, sum_first (get_or counts i 0) (drop (i + 1) counts))

pub later_enough : (counts : List ℕ) (i : ℕ) (rest later : List PathStep) → i < length counts → later ≡ drop (get_or counts i 0) rest → sum (drop i counts) ≤ length rest → sum (drop (i + 1) counts) ≤ length later
later_enough counts i rest later within back enough = omega (arith, subst (λ (ns : List ℕ). sum ns ≤ length rest) (drop_more counts i 0 within) enough, sum_first (get_or counts i 0) (drop (i + 1) counts), ap length back ∙ length-drop (get_or counts i 0) rest)
