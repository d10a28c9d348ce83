-- The meaning of a path by sets of locations.
use Rattle.std.proofs.Common.{◌≡◌, ℕ, List, [], ◌∷◌, Option, Some, None, Bool, true, false, cond, refl, sym, ap₂, subst, ◌∙◌, arith, filter, option_map}
use Rattle.std.specs.List.{list_any}
use Rattle.jsonpath_nodes.specs.document.Document.{Document}
use Rattle.jsonpath_paths.specs.tree.Tree.{Path, PathSteps, Inner, Condition, Term}
use Rattle.jsonpath_paths.specs.tree.Tree as tree
use Rattle.jsonpath_paths.specs.declared.token.tokens.FilterToken.{FilterToken}
use Rattle.jsonpath_nodes.specs.place.Location.{Location, at}
use Rattle.jsonpath_nodes.specs.compare.Comparisons.{Seen, seen}
use Rattle.jsonpath_nodes.specs.step.SameMembers.{SameMembers, StepOfASet, BelowOfASet, CandidatesOfASet, KeptOfASet, SomeOfASet, OneListOfASet}
use Rattle.jsonpath_nodes.specs.step.Steps.{every, step, all_below, flattened}
use Rattle.jsonpath_select.specs.Meaning.{sel, reached, follow, inner_on, holds, values, candidates, is_some_location, values_at, has_own_step}
use Rattle.jsonpath_select.specs.Parts.{plain_of, is_pair, has_pair, joined}
use Rattle.jsonpath_select.specs.SetMeaning.{Lessening, KeepsMembers, FindsAllBelow, reached_by, follow_by, inner_by, holds_by, values_by, sel_by, SelectsOneSet, SelectsOneOrderedSet, HoldsAlike}

pub same-itself : (ls : List Location) → SameMembers ls ls
same-itself ls l = (λ h. h, λ h. h)

pub same-trans : (ls ms ns : List Location) → SameMembers ls ms → SameMembers ms ns → SameMembers ls ns
same-trans ls ms ns h k l = (λ a. (k l).0 ((h l).0 a), λ a. (h l).1 ((k l).1 a))

-- two lists of values of which the same tests hold somewhere
abbrev SameTests : List Seen → List Seen → Type 0
SameTests xs ys = (test : Seen → Bool) → list_any test xs ≡ list_any test ys

abbrev seen_holds : (Seen → Bool) → Option Seen → Bool
seen_holds test None = false
seen_holds test (Some x) = test x

any_values : (doc : Document) (test : Seen → Bool) (ls : List Location) → list_any test (values_at doc ls) ≡ list_any (λ l. seen_holds test (option_map seen (at doc l))) ls
any_values doc test [] = refl
any_values doc test (l ∷ ls) = grind (arith, any_values doc test ls)

some_location : (ls : List Location) → is_some_location ls ≡ list_any (λ l. true) ls
some_location [] = refl
some_location (l ∷ ls) = refl

pair-same : (op : FilterToken) (xs xs' ys ys' : List Seen) → SameTests xs xs' → SameTests ys ys' → has_pair op xs ys ≡ has_pair op xs' ys'
pair-same op xs xs' ys ys' h k =
    h (λ x. list_any (λ y. is_pair op x y) ys) ∙ (λ i. list_any (λ x. k (λ y. is_pair op x y) i) xs')

-- ---- with what is a matter of sets alone

module _ (step_same : StepOfASet) (below_same : BelowOfASet) (flat_same : CandidatesOfASet) (filter_same : KeptOfASet) (any_same : SomeOfASet) where
  some-same : (ls ms : List Location) → SameMembers ls ms → is_some_location ls ≡ is_some_location ms
  some-same ls ms h = some_location ls ∙ any_same (λ l. true) ls ms h ∙ sym (some_location ms)

  values-same : (doc : Document) (ls ms : List Location) → SameMembers ls ms → SameTests (values_at doc ls) (values_at doc ms)
  values-same doc ls ms h test = any_values doc test ls ∙ any_same (λ l. seen_holds test (option_map seen (at doc l))) ls ms h ∙ sym (any_values doc test ms)

  base-same : (doc : Document) (descend : Lessening) (leaves : Bool) (ls ms : List Location) → FindsAllBelow doc descend → SameMembers ls ms
      → SameMembers (cond leaves (descend ls) ls) (cond leaves (all_below doc ms) ms)
  base-same doc descend true ls ms finds h = same-trans (descend ls) (all_below doc ls) (all_below doc ms) (finds ls) (below_same doc ls ms h)
  base-same doc descend false ls ms finds h = h

  deep-same : (doc : Document) (descend : Lessening) (leaves : Bool) (ls ms : List Location) → FindsAllBelow doc descend → SameMembers ls ms
      → SameMembers (cond leaves (step doc every (descend ls)) ls) (cond leaves (step doc every (all_below doc ms)) ms)
  deep-same doc descend true ls ms finds h = step_same doc every (descend ls) (all_below doc ms) (base-same doc descend true ls ms finds h)
  deep-same doc descend false ls ms finds h = h

  candidates-same : (doc : Document) (b : Bool) (ls ms : List Location) → SameMembers ls ms → SameMembers (cond b (flattened doc ls) ls) (cond b (flattened doc ms) ms)
  candidates-same doc true ls ms h = flat_same doc ls ms h
  candidates-same doc false ls ms h = h

  kept-same : (test test' : Location → Bool) (ls ms : List Location) → ((c : Location) → test c ≡ test' c) → SameMembers ls ms → SameMembers (filter test ls) (filter test' ms)
  kept-same test test' ls ms e h = same-trans (filter test ls) (filter test ms) (filter test' ms) (filter_same test ls ms h) (same_list (λ i. filter (λ c. e c i) ms))
    where
      same_list : filter test ms ≡ filter test' ms → SameMembers (filter test ms) (filter test' ms)
      same_list is = subst (λ (ns : List Location). SameMembers (filter test ms) ns) is (same-itself (filter test ms))

  mutual
    reached-same : (less descend : Lessening) (text : List ℕ) (doc : Document) (p : Path) (l : Location) → KeepsMembers less → FindsAllBelow doc descend
        → SameMembers (reached_by less descend text doc p l) (reached text doc p l)
    reached-same less descend text doc (tree.path absolute steps) l keeps finds =
        follow-same less descend text doc steps (cond absolute [] l ∷ []) (cond absolute [] l ∷ []) keeps finds (same-itself (cond absolute [] l ∷ []))

    follow-same : (less descend : Lessening) (text : List ℕ) (doc : Document) (steps : PathSteps) (ls ms : List Location) → KeepsMembers less → FindsAllBelow doc descend → SameMembers ls ms
        → SameMembers (follow_by less descend text doc steps ls) (follow text doc steps ms)
    follow-same less descend text doc tree.no_steps ls ms keeps finds h = h
    follow-same less descend text doc (tree.step_then leaves bracket inner rest) ls ms keeps finds h =
        let found = inner_by less descend text doc inner leaves ls in
        follow-same less descend text doc rest (less found) (inner_on text doc inner leaves ms) keeps finds
        (same-trans (less found) found (inner_on text doc inner leaves ms) (keeps found) (inner-same less descend text doc inner leaves ls ms keeps finds h))

    inner-same : (less descend : Lessening) (text : List ℕ) (doc : Document) (inner : Inner) (leaves : Bool) (ls ms : List Location) → KeepsMembers less → FindsAllBelow doc descend → SameMembers ls ms
        → SameMembers (inner_by less descend text doc inner leaves ls) (inner_on text doc inner leaves ms)
    inner-same less descend text doc (tree.plain token) leaves ls ms keeps finds h =
        step_same doc (plain_of text token) (cond leaves (descend ls) ls) (cond leaves (all_below doc ms) ms) (base-same doc descend leaves ls ms finds h)
    inner-same less descend text doc (tree.filter f) leaves ls ms keeps finds h =
        kept-same (λ c. holds_by less descend text doc f c) (λ c. holds text doc f c)
        (candidates doc f (cond leaves (step doc every (descend ls)) ls)) (candidates doc f (cond leaves (step doc every (all_below doc ms)) ms))
        (λ c. holds-same less descend text doc f c keeps finds)
        (candidates-same doc (has_own_step f) (cond leaves (step doc every (descend ls)) ls) (cond leaves (step doc every (all_below doc ms)) ms) (deep-same doc descend leaves ls ms finds h))

    holds-same : (less descend : Lessening) (text : List ℕ) (doc : Document) (f : Condition) (c : Location) → KeepsMembers less → FindsAllBelow doc descend
        → holds_by less descend text doc f c ≡ holds text doc f c
    holds-same less descend text doc (tree.lone p) c keeps finds = some-same (reached_by less descend text doc p c) (reached text doc p c) (reached-same less descend text doc p c keeps finds)
    holds-same less descend text doc (tree.compare l op r) c keeps finds =
        pair-same op (values_by less descend text doc l c) (values text doc l c) (values_by less descend text doc r c) (values text doc r c)
        (terms-same less descend text doc l c keeps finds) (terms-same less descend text doc r c keeps finds)
    holds-same less descend text doc (tree.join op a b) c keeps finds =
        ap₂ (joined op) (holds-same less descend text doc a c keeps finds) (holds-same less descend text doc b c keeps finds)

    terms-same : (less descend : Lessening) (text : List ℕ) (doc : Document) (t : Term) (c : Location) → KeepsMembers less → FindsAllBelow doc descend
        → SameTests (values_by less descend text doc t c) (values text doc t c)
    terms-same less descend text doc (tree.at_path p) c keeps finds =
        values-same doc (reached_by less descend text doc p c) (reached text doc p c) (reached-same less descend text doc p c keeps finds)
    terms-same less descend text doc (tree.literal token) c keeps finds = λ test. refl

  pub dropping_repeats_keeps_the_set : SelectsOneSet
  dropping_repeats_keeps_the_set less descend text doc p = reached-same less descend text doc p []

  pub selects_one_ordered_set : OneListOfASet → SelectsOneOrderedSet
  selects_one_ordered_set one_list less descend text doc p keeps finds =
      one_list (sel_by less descend text doc p) (sel text doc p) (reached-same less descend text doc p [] keeps finds)

  pub holds_alike : HoldsAlike
  holds_alike = holds-same
