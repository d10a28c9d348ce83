-- What leads to nothing needs not be followed: a path leads from some locations where it leads from those alone that lead on.
use Rattle.std.proofs.Common.{◌≡◌, ℕ, Bool, true, false, cond, ◌&&◌, ◌||◌, List, [], ◌∷◌, ◌++◌, Equal, refl, sym, ap, ◌∙◌, append-nil, arith, filter}
use Rattle.std.specs.Cmp.{Equal-is}
use Rattle.std.specs.List.{list_any}
use Rattle.std.proofs.lemmas.Grind.{flat_map-append}
use Rattle.std.proofs.lemmas.List.Elements.{filter-append}
use Rattle.std.proofs.lemmas.List.Folds.{list_any-append}
use Rattle.std.proofs.lemmas.Map.Views.{any-filter_same}
use Rattle.jsonpath_nodes.specs.document.Document.{Document}
use Rattle.jsonpath_paths.specs.tree.Tree.{PathSteps, Inner}
use Rattle.jsonpath_paths.specs.tree.Tree as tree
use Rattle.jsonpath_nodes.specs.place.Location.{Location, location_cmp, is_same, below, flat}
use Rattle.jsonpath_nodes.specs.step.SameMembers.{SomeOfASet, EachOnceKeepsMembers}
use Rattle.jsonpath_nodes.specs.step.Steps.{every, step, all_below, from, from_each, single_steps, each_once, each_once_after, flattened}
use Rattle.jsonpath_select.specs.Meaning.{follow, inner_on, holds, is_some_location, has_own_step}
use Rattle.jsonpath_select.specs.Parts.{plain_of}

-- ---- lists that are made location by location

abbrev pub Additive : (List Location → List Location) → Type 0
Additive f = (l : Location) (ls : List Location) → f (l ∷ ls) ≡ f (l ∷ []) ++ f ls

any-filter : (one two : Location → Bool) (xs : List Location) → list_any two (filter one xs) ≡ list_any (λ x. one x && two x) xs
any-filter one two [] = refl
any-filter one two (x ∷ xs) = grind (arith, any-filter one two xs)

filter-filter : (one two : Location → Bool) (xs : List Location) → filter two (filter one xs) ≡ filter (λ x. one x && two x) xs
filter-filter one two [] = refl
filter-filter one two (x ∷ xs) = grind (arith, filter-filter one two xs)

pub none-filter : (test : Location → Bool) (xs : List Location) → list_any test xs ≡ false → filter test xs ≡ []
none-filter test [] h = refl
none-filter test (x ∷ xs) h = grind (arith, none-filter test xs)

pub any_of : (f : List Location → List Location) (test : Location → Bool) → f [] ≡ [] → Additive f → (ls : List Location) → list_any test (f ls) ≡ list_any (λ l. list_any test (f (l ∷ []))) ls
any_of f test none add [] = ap (list_any test) none
any_of f test none add (l ∷ ls) = ap (list_any test) (add l ls) ∙ list_any-append test (f (l ∷ [])) (f ls) ∙ ap (λ c. list_any test (f (l ∷ [])) || c) (any_of f test none add ls)

-- those from which nothing that passes is made can go
kept_of : (f : List Location → List Location) (test : Location → Bool) → f [] ≡ [] → Additive f → (ls : List Location)
    → filter test (f ls) ≡ filter test (f (filter (λ l. list_any test (f (l ∷ []))) ls))
kept_of f test none add [] = refl
kept_of f test none add (l ∷ ls) = by (list_any test (f (l ∷ []))) refl (kept_of f test none add ls)
  where
    split : filter test (f (l ∷ ls)) ≡ filter test (f (l ∷ [])) ++ filter test (f ls)
    split = ap (filter test) (add l ls) ∙ filter-append test (f (l ∷ [])) (f ls)

    by : (b : Bool) → list_any test (f (l ∷ [])) ≡ b → filter test (f ls) ≡ filter test (f (filter (λ m. list_any test (f (m ∷ []))) ls))
        → filter test (f (l ∷ ls)) ≡ filter test (f (cond b (l ∷ filter (λ m. list_any test (f (m ∷ []))) ls) (filter (λ m. list_any test (f (m ∷ []))) ls)))
    by true is later =
        split ∙ ap (λ (zs : List Location). filter test (f (l ∷ [])) ++ zs) later
        ∙ sym (ap (filter test) (add l (filter (λ m. list_any test (f (m ∷ []))) ls)) ∙ filter-append test (f (l ∷ [])) (f (filter (λ m. list_any test (f (m ∷ []))) ls)))
    by false is later = split ∙ ap (λ (zs : List Location). zs ++ filter test (f ls)) (none-filter test (f (l ∷ [])) is) ∙ later

-- ---- the parts of a step

pub from_each-additive : (doc : Document) (f : Document → List Location) → Additive (from_each doc f)
from_each-additive doc f l ls = ap (λ (xs : List Location). xs ++ from_each doc f ls) (sym (append-nil (from doc f l)))

pub then_each : (doc : Document) (f : Document → List Location) (g : List Location → List Location) → Additive g → Additive (λ ls. from_each doc f (g ls))
then_each doc f g add l ls = ap (from_each doc f) (add l ls) ∙ flat_map-append (from doc f) (g (l ∷ [])) (g ls)

then_filter : (test : Location → Bool) (g : List Location → List Location) → Additive g → Additive (λ ls. filter test (g ls))
then_filter test g add l ls = ap (filter test) (add l ls) ∙ filter-append test (g (l ∷ [])) (g ls)

-- ---- each once

module _ (apart : (l m : Location) → location_cmp l m ≡ Equal → l ≡ m) (test : Location → Bool) where
  -- whether one of those that pass is the same
  pub same_passes : (l : Location) (ms : List Location) → list_any (is_same l) (filter test ms) ≡ (test l && list_any (is_same l) ms)
  same_passes l = any-filter_same (is_same l) test (test l) (λ m same. sym (ap test (apart l m ((Equal-is (location_cmp l m)).0 same))))

  once_kept : (before xs : List Location) → filter test (each_once_after before xs) ≡ each_once_after (filter test before) (filter test xs)
  once_kept before [] = refl
  once_kept before (x ∷ xs) = grind (arith, once_kept before xs, once_kept (before ++ x ∷ []) xs, same_passes x before, filter-append test before (x ∷ []), append-nil (filter test before))

-- ---- the steps one after the other

module _ (apart : (l m : Location) → location_cmp l m ≡ Equal → l ≡ m) (once_same : EachOnceKeepsMembers) (some_same : SomeOfASet) (text : List ℕ) (doc : Document) where
  -- whether the steps lead somewhere from a location
  abbrev pub leads : PathSteps → Location → Bool
  leads ss l = is_some_location (follow text doc ss (l ∷ []))

  -- what one step does to a list, when those that pass a test are looked for
  abbrev pub StepKeeps : Inner → Bool → (Location → Bool) → Type 0
  StepKeeps inner leaves test = (ls : List Location)
      → (list_any test (inner_on text doc inner leaves ls) ≡ list_any (λ l. list_any test (inner_on text doc inner leaves (l ∷ []))) ls)
      × (filter test (inner_on text doc inner leaves ls) ≡ filter test (inner_on text doc inner leaves (filter (λ l. list_any test (inner_on text doc inner leaves (l ∷ []))) ls)))

  additive_keeps : (f : List Location → List Location) (test : Location → Bool) → f [] ≡ [] → Additive f → (ls : List Location)
      → (list_any test (f ls) ≡ list_any (λ l. list_any test (f (l ∷ []))) ls) × (filter test (f ls) ≡ filter test (f (filter (λ l. list_any test (f (l ∷ []))) ls)))
  additive_keeps f test none add ls = (any_of f test none add ls, kept_of f test none add ls)

  -- what one step does to a list whose locations are then taken once each, when those that pass a test are looked for
  once_keeps : (pass : Location → Bool) (f : List Location → List Location) (test : Location → Bool) → f [] ≡ [] → Additive f → (ls : List Location)
      → (list_any test (filter pass (each_once (f ls))) ≡ list_any (λ l. list_any test (filter pass (each_once (f (l ∷ []))))) ls)
      × (filter test (filter pass (each_once (f ls))) ≡ filter test (filter pass (each_once (f (filter (λ l. list_any test (filter pass (each_once (f (l ∷ []))))) ls)))))
  once_keeps pass f test none add ls =
      let both : Location → Bool = λ l. pass l && test l in
      let any : (xs : List Location) → list_any test (filter pass (each_once xs)) ≡ list_any both xs = λ xs. any-filter pass test (each_once xs) ∙ some_same both (each_once xs) xs (once_same xs) in
      let all : (xs : List Location) → filter test (filter pass (each_once xs)) ≡ each_once (filter both xs) = λ xs. filter-filter pass test (each_once xs) ∙ once_kept apart both [] xs in
      let each : (l : Location) → list_any test (filter pass (each_once (f (l ∷ [])))) ≡ list_any both (f (l ∷ [])) = λ l. any (f (l ∷ [])) in (
        any (f ls) ∙ any_of f both none add ls ∙ (λ i. list_any (λ l. sym (each l) i) ls),
        all (f ls) ∙ ap each_once (kept_of f both none add ls) ∙ sym (all (f (filter (λ l. list_any both (f (l ∷ []))) ls)))
            ∙ (λ i. filter test (filter pass (each_once (f (filter (λ l. sym (each l) i) ls))))),
      )

  pub step_keeps : (inner : Inner) (leaves : Bool) (test : Location → Bool) → StepKeeps inner leaves test
  step_keeps (tree.plain token) true test ls =
      additive_keeps (λ ms. step doc (plain_of text token) (all_below doc ms)) test refl (then_each doc (single_steps (plain_of text token)) (all_below doc) (from_each-additive doc below)) ls
  step_keeps (tree.plain token) false test ls = additive_keeps (λ ms. step doc (plain_of text token) ms) test refl (from_each-additive doc (single_steps (plain_of text token))) ls
  step_keeps (tree.filter f) leaves test ls = by leaves (has_own_step f)
    where
      pass : Location → Bool
      pass c = holds text doc f c

      by : (b own : Bool)
          → (list_any test (filter (λ c. holds text doc f c) (cond own (flattened doc (cond b (step doc every (all_below doc ls)) ls)) (cond b (step doc every (all_below doc ls)) ls)))
          ≡ list_any (λ l. list_any test (filter (λ c. holds text doc f c) (cond own (flattened doc (cond b (step doc every (all_below doc (l ∷ []))) (l ∷ []))) (cond b (step doc every (all_below doc (l ∷ []))) (l ∷ []))))) ls)
          × (filter test (filter (λ c. holds text doc f c) (cond own (flattened doc (cond b (step doc every (all_below doc ls)) ls)) (cond b (step doc every (all_below doc ls)) ls)))
          ≡ filter test (filter (λ c. holds text doc f c)
          (cond own
          (flattened doc
          (cond b
          (step doc every (all_below doc (filter (λ l. list_any test (filter (λ c. holds text doc f c) (cond own (flattened doc (cond b (step doc every (all_below doc (l ∷ []))) (l ∷ []))) (cond b (step doc every (all_below doc (l ∷ []))) (l ∷ []))))) ls)))
          (filter (λ l. list_any test (filter (λ c. holds text doc f c) (cond own (flattened doc (cond b (step doc every (all_below doc (l ∷ []))) (l ∷ []))) (cond b (step doc every (all_below doc (l ∷ []))) (l ∷ []))))) ls)))
          (cond b
          (step doc every (all_below doc (filter (λ l. list_any test (filter (λ c. holds text doc f c) (cond own (flattened doc (cond b (step doc every (all_below doc (l ∷ []))) (l ∷ []))) (cond b (step doc every (all_below doc (l ∷ []))) (l ∷ []))))) ls)))
          (filter (λ l. list_any test (filter (λ c. holds text doc f c) (cond own (flattened doc (cond b (step doc every (all_below doc (l ∷ []))) (l ∷ []))) (cond b (step doc every (all_below doc (l ∷ []))) (l ∷ []))))) ls)))))
      by true true = once_keeps pass (λ ms. from_each doc flat (step doc every (all_below doc ms))) test refl (then_each doc flat (λ ms. step doc every (all_below doc ms)) (then_each doc (single_steps every) (all_below doc) (from_each-additive doc below))) ls
      by true false = additive_keeps (λ ms. filter pass (step doc every (all_below doc ms))) test refl (then_filter pass (λ ms. step doc every (all_below doc ms)) (then_each doc (single_steps every) (all_below doc) (from_each-additive doc below))) ls
      by false true = once_keeps pass (λ ms. from_each doc flat ms) test refl (from_each-additive doc flat) ls
      by false false = additive_keeps (λ ms. filter pass ms) test refl (then_filter pass (λ ms. ms) (λ l ms. refl)) ls

  all_lead : (ls : List Location) → is_some_location ls ≡ list_any (leads tree.no_steps) ls
  all_lead [] = refl
  all_lead (l ∷ ls) = refl

  pub some_lead : (ss : PathSteps) (ls : List Location) → is_some_location (follow text doc ss ls) ≡ list_any (leads ss) ls
  some_lead tree.no_steps ls = all_lead ls
  some_lead (tree.step_then leaves bracket inner rest) ls =
      some_lead rest (inner_on text doc inner leaves ls) ∙ (step_keeps inner leaves (leads rest) ls).0
      ∙ (λ i. list_any (λ l. sym (some_lead rest (inner_on text doc inner leaves (l ∷ []))) i) ls)

  all_kept : (ls : List Location) → ls ≡ filter (leads tree.no_steps) ls
  all_kept [] = refl
  all_kept (l ∷ ls) = ap (λ (ms : List Location). l ∷ ms) (all_kept ls)

  pub pruned : (ss : PathSteps) (ls : List Location) → follow text doc ss ls ≡ follow text doc ss (filter (leads ss) ls)
  pruned tree.no_steps ls = all_kept ls
  pruned (tree.step_then leaves bracket inner rest) ls =
      let left : List Location = filter (λ l. list_any (leads rest) (inner_on text doc inner leaves (l ∷ []))) ls in
      pruned rest (inner_on text doc inner leaves ls) ∙ ap (follow text doc rest) (step_keeps inner leaves (leads rest) ls).1 ∙ sym (pruned rest (inner_on text doc inner leaves left))
      ∙ (λ i. follow text doc rest (inner_on text doc inner leaves (filter (λ l. sym (some_lead rest (inner_on text doc inner leaves (l ∷ []))) i) ls)))
