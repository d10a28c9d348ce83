-- What a list leads to begins with what its front leads to, so the first place of an answer is found from one piece at a time.
use Rattle.std.proofs.Common.{◌≡◌, ℕ, ◌+◌, Option, Some, None, Bool, true, false, cond, List, [], ◌∷◌, ◌++◌, take, drop, length, ◌==◌, suc, ne_eqb, arith, Equal, refl, sym, ap, ◌∙◌, drop-drop, take-append-drop, filter}
use Rattle.std.proofs.lemmas.Grind.{flat_map-append}
use Rattle.std.proofs.lemmas.List.Elements.{filter-append}
use Rattle.std.specs.List.{list_any}
use Rattle.jsonpath_nodes.specs.document.Document.{Document}
use Rattle.jsonpath_paths.specs.tree.Tree.{PathSteps, Inner, Condition}
use Rattle.jsonpath_paths.specs.tree.Tree as tree
use Rattle.jsonpath_nodes.specs.place.Location.{Location, location_cmp, is_same, below, flat}
use Rattle.jsonpath_nodes.specs.step.SameMembers.{SomeOfASet, EachOnceKeepsMembers}
use Rattle.jsonpath_nodes.specs.step.Steps.{every, from, from_each, single_steps, each_once, each_once_after, flattened}
use Rattle.jsonpath_select.specs.Meaning.{follow, inner_on, holds, is_some_location, has_own_step}
use Rattle.jsonpath_select.specs.Parts.{plain_of}
use Rattle.jsonpath_nodes.specs.place.Mark.{MarksStandAt}
use Rattle.jsonpath_select.specs.plan.First.{kept_by}
use Rattle.jsonpath_select.proofs.walk.LeadingLemmas.{none-filter, pruned, some_lead}

-- the first list begins with the second
abbrev Begins : List Location → List Location → Type 0
Begins whole front = (rest : List Location) × (whole ≡ front ++ rest)

filter-begins : (test : Location → Bool) (whole front : List Location) → Begins whole front → Begins (filter test whole) (filter test front)
filter-begins test whole front h = (filter test h.0, ap (filter test) h.1 ∙ filter-append test front h.0)

each_once-begins : (before front rest : List Location) → Begins (each_once_after before (front ++ rest)) (each_once_after before front)
each_once-begins before [] rest = (each_once_after before rest, refl)
each_once-begins before (x ∷ front) rest = by (list_any (is_same x) before) (each_once-begins before front rest) (each_once-begins (before ++ x ∷ []) front rest)
  where
    by : (b : Bool) → Begins (each_once_after before (front ++ rest)) (each_once_after before front) → Begins (each_once_after (before ++ x ∷ []) (front ++ rest)) (each_once_after (before ++ x ∷ []) front)
        → Begins (cond b (each_once_after before (front ++ rest)) (x ∷ each_once_after (before ++ x ∷ []) (front ++ rest))) (cond b (each_once_after before front) (x ∷ each_once_after (before ++ x ∷ []) front))
    by true old new = old
    by false old new = (new.0, ap (λ (ls : List Location). x ∷ ls) new.1)

module _ (text : List ℕ) (doc : Document) where
  -- a filter's candidates and those of them that pass
  passing-begins : (own : Bool) (pass : Location → Bool) (whole front : List Location) → Begins whole front
      → Begins (filter pass (cond own (flattened doc whole) whole)) (filter pass (cond own (flattened doc front) front))
  passing-begins true pass whole front h =
      let once = each_once-begins [] (from_each doc flat front) (from_each doc flat h.0) in
      filter-begins pass _ _ (once.0, ap (λ ls. flattened doc ls) h.1 ∙ ap each_once (flat_map-append (from doc flat) front h.0) ∙ once.1)
  passing-begins false pass whole front h = filter-begins pass whole front h

  each-begins : (f : Document → List Location) (whole front : List Location) → Begins whole front → Begins (from_each doc f whole) (from_each doc f front)
  each-begins f whole front h = (from_each doc f h.0, ap (from_each doc f) h.1 ∙ flat_map-append (from doc f) front h.0)

  inner_on-begins : (inner : Inner) (leaves : Bool) (whole front : List Location) → Begins whole front → Begins (inner_on text doc inner leaves whole) (inner_on text doc inner leaves front)
  inner_on-begins (tree.plain token) true whole front h = each-begins (single_steps (plain_of text token)) _ _ (each-begins below whole front h)
  inner_on-begins (tree.plain token) false whole front h = each-begins (single_steps (plain_of text token)) _ _ h
  inner_on-begins (tree.filter f) true whole front h = passing-begins (has_own_step f) (λ c. holds text doc f c) _ _ (each-begins (single_steps every) _ _ (each-begins below whole front h))
  inner_on-begins (tree.filter f) false whole front h = passing-begins (has_own_step f) (λ c. holds text doc f c) _ _ h

  follow-begins : (ss : PathSteps) (whole front : List Location) → Begins whole front → Begins (follow text doc ss whole) (follow text doc ss front)
  follow-begins tree.no_steps whole front h = h
  follow-begins (tree.step_then leaves bracket inner rest) whole front h = follow-begins rest _ _ (inner_on-begins inner leaves whole front h)

module _ (apart : (l m : Location) → location_cmp l m ≡ Equal → l ≡ m) (once_same : EachOnceKeepsMembers) (some_same : SomeOfASet) (text : List ℕ) (doc : Document) where
  pub first_of_pieces : (ss : PathSteps) (ls ms : List Location) → take 1 (follow text doc ss (ls ++ ms)) ≡ take 1 (follow text doc ss ls ++ follow text doc ss ms)
  first_of_pieces ss ls ms = by (follow text doc ss ls) refl
    where
      test : Location → Bool
      test l = is_some_location (follow text doc ss (l ∷ []))

      by : (front : List Location) → follow text doc ss ls ≡ front → take 1 (follow text doc ss (ls ++ ms)) ≡ take 1 (front ++ follow text doc ss ms)
      by [] is =
          let none : filter test ls ≡ [] = none-filter test ls (sym (some_lead apart once_same some_same text doc ss ls) ∙ ap is_some_location is) in
          ap (take 1)
          (pruned apart once_same some_same text doc ss (ls ++ ms)
          ∙ ap (follow text doc ss) (filter-append test ls ms ∙ ap (λ (ks : List Location). ks ++ filter test ms) none)
          ∙ sym (pruned apart once_same some_same text doc ss ms))
      by (l ∷ front) is =
          let begins = follow-begins text doc ss (ls ++ ms) ls (ms, refl) in
          ap (take 1) (begins.1 ∙ ap (λ (ks : List Location). ks ++ begins.0) is)

-- ---- from nowhere

module _ (text : List ℕ) (doc : Document) where
  pub follow-none : (ss : PathSteps) → follow text doc ss [] ≡ []
  follow-none tree.no_steps = refl
  follow-none (tree.step_then leaves bracket (tree.plain token) rest) = grind (arith, follow-none rest)
  follow-none (tree.step_then leaves bracket (tree.filter f) rest) = grind (arith, follow-none rest)

-- ---- slices of a list

-- where pieces lead, the first place is that of the first piece that leads to something
module _ (g : List Location → List Location) (pieces : (xs ys : List Location) → take 1 (g (xs ++ ys)) ≡ take 1 (g xs ++ g ys)) (ls : List Location) where
  halves : (i n : ℕ) → take 1 (g (drop i ls)) ≡ take 1 (g (take n (drop i ls)) ++ g (drop (i + n) ls))
  halves i n =
      ap (λ (ms : List Location). take 1 (g ms)) (sym (take-append-drop n (drop i ls))) ∙ pieces (take n (drop i ls)) (drop n (drop i ls))
      ∙ ap (λ (ms : List Location). take 1 (g (take n (drop i ls)) ++ g ms)) (drop-drop n i ls)

  pub first_here : (i n : ℕ) → is_some_location (g (take n (drop i ls))) ≡ true → take 1 (g (drop i ls)) ≡ take 1 (g (take n (drop i ls)))
  first_here i n some = halves i n ∙ by (g (take n (drop i ls))) some
    where
      by : (front : List Location) → is_some_location front ≡ true → take 1 (front ++ g (drop (i + n) ls)) ≡ take 1 front
      by [] h = cc
      by (l ∷ front) h = refl

  pub none_here : (i n end : ℕ) → end ≡ i + n → g (take n (drop i ls)) ≡ [] → take 1 (g (drop i ls)) ≡ take 1 (g (drop end ls))
  none_here i n end is none = halves i n ∙ ap (λ (ms : List Location). take 1 (ms ++ g (drop (i + n) ls))) none ∙ ap (λ k. take 1 (g (drop k ls))) (sym is)

module _ {M : Type 0} (b : Bool) (stand : M → Location) (content : M → Document) (doc : Document) where
  pub some_stands : (ls : List Location) (marks : List M) → MarksStandAt b stand content doc ls marks → (length marks == 0) ≡ false → is_some_location ls ≡ true
  some_stands [] [] h some = cc
  some_stands [] (m ∷ marks) h some = cc
  some_stands (l ∷ ls) marks h some = refl

  pub none_stands : (ls : List Location) (marks : List M) → MarksStandAt b stand content doc ls marks → (length marks == 0) ≡ true → ls ≡ []
  none_stands [] marks h none = refl
  none_stands (l ∷ ls) [] h none = cc
  none_stands (l ∷ ls) (m ∷ marks) h none = absurd (let bad : false ≡ true = sym (ne_eqb (suc (length marks)) 0 (omega arith)) ∙ none in cc)

pub kept-append : (text : List ℕ) (doc : Document) (f : Option Condition) (xs ys : List Location) → kept_by text doc f (xs ++ ys) ≡ kept_by text doc f xs ++ kept_by text doc f ys
kept-append text doc (Some f) xs ys = filter-append (λ l. holds text doc f l) xs ys
kept-append text doc None xs ys = refl

pub none_kept : (text : List ℕ) (doc : Document) (f : Option Condition) (ss : PathSteps) → follow text doc ss (kept_by text doc f []) ≡ []
none_kept text doc (Some f) ss = follow-none text doc ss
none_kept text doc None ss = follow-none text doc ss
