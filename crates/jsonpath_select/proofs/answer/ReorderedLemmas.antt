-- Paths that differ in the order of the sides of connectives alone select the same list.
use Rattle.std.proofs.Common.{◌≡◌, ℕ, Bool, ◌&&◌, ◌||◌, not, List, [], ◌∷◌, inl, inr, refl, ap, ap₂, ◌∙◌, filter, if◌then◌else◌}
use Rattle.std.proofs.Math.Bool.{and_comm, or_comm}
use Rattle.jsonpath_nodes.specs.document.Document.{Document}
use Rattle.jsonpath_paths.specs.tree.Tree as tree
use Rattle.jsonpath_paths.specs.tree.Tree.{Path, path, PathSteps, no_steps, step_then, Inner, plain, Condition, lone, compare, join, Term, at_path, literal}
use Rattle.jsonpath_paths.specs.declared.token.tokens.FilterToken.{FilterToken}
use Rattle.jsonpath_paths.specs.declared.token.tokens.FilterToken.TheVariants as op
use Rattle.jsonpath_nodes.specs.place.Location.{Location}
use Rattle.jsonpath_nodes.specs.step.Steps.{Plain, step, every, all_below, flattened}
use Rattle.jsonpath_select.specs.Parts.{has_pair, joined}
use Rattle.jsonpath_select.specs.SelectionLaws.{IsReordered, AreReordered, IsReorderedInner, IsReorderedCondition, IsReorderedTerm, OrderIsFree}
use Rattle.jsonpath_select.specs.Meaning.{has_steps, has_own_step_path, has_own_step_term, has_own_step, candidates, is_some_location, values_at, reached, follow, inner_on, holds, values}

pub joined_swap : (o : FilterToken) (a b : Bool) → joined o a b ≡ joined o b a
joined_swap op.And a b = and_comm a b
joined_swap op.Or a b = or_comm a b
joined_swap _ a b = refl

-- ---- the candidates

module _ (s t : List ℕ) where
  same_has_steps : (ss ss' : PathSteps) → AreReordered s t ss ss' → has_steps ss ≡ has_steps ss'
  same_has_steps no_steps no_steps h = refl
  same_has_steps no_steps (step_then leaves' bracket' inner' rest') h = absurd h
  same_has_steps (step_then leaves bracket inner rest) no_steps h = absurd h
  same_has_steps (step_then leaves bracket inner rest) (step_then leaves' bracket' inner' rest') h = refl

  same_own_path : (p p' : Path) → IsReordered s t p p' → has_own_step_path p ≡ has_own_step_path p'
  same_own_path (path a ss) (path a' ss') h = ap₂ (λ (x y : Bool). not x && y) h.0 (same_has_steps ss ss' h.1)

  same_own_term : (x x' : Term) → IsReorderedTerm s t x x' → has_own_step_term x ≡ has_own_step_term x'
  same_own_term (at_path p) (at_path p') h = same_own_path p p' h
  same_own_term (at_path p) (literal token') h = absurd h
  same_own_term (literal token) (at_path p') h = absurd h
  same_own_term (literal token) (literal token') h = refl

  pub same_own : (f f' : Condition) → IsReorderedCondition s t f f' → has_own_step f ≡ has_own_step f'
  same_own (lone p) (lone p') h = same_own_path p p' h
  same_own (compare a o b) (compare a' o' b') h = ap₂ (λ (x y : Bool). x || y) (same_own_term a a' h.1) (same_own_term b b' h.2)
  same_own (join o a b) (join o' a' b') (e, inl h) = ap₂ (λ (x y : Bool). x || y) (same_own a a' h.0) (same_own b b' h.1)
  same_own (join o a b) (join o' a' b') (e, inr h) =
      ap₂ (λ (x y : Bool). x || y) (same_own a b' h.0) (same_own b a' h.1) ∙ or_comm (has_own_step b') (has_own_step a')
  same_own _ _ h = absurd h

-- ---- the selection

module _ (s t : List ℕ) (doc : Document) where
  mutual
    reordered_reached : (p p' : Path) → IsReordered s t p p' → (l : Location) → reached s doc p l ≡ reached t doc p' l
    reordered_reached (path a ss) (path a' ss') h l =
        ap (λ (b : Bool). follow s doc ss ((if b then [] else l) ∷ [])) h.0 ∙ reordered_follow ss ss' h.1 ((if a' then [] else l) ∷ [])

    reordered_follow : (ss ss' : PathSteps) → AreReordered s t ss ss' → (ls : List Location) → follow s doc ss ls ≡ follow t doc ss' ls
    reordered_follow no_steps no_steps h ls = refl
    reordered_follow no_steps (step_then leaves' bracket' inner' rest') h ls = absurd h
    reordered_follow (step_then leaves bracket inner rest) no_steps h ls = absurd h
    reordered_follow (step_then leaves bracket inner rest) (step_then leaves' bracket' inner' rest') h ls =
        reordered_follow rest rest' h.2 (inner_on s doc inner leaves ls)
        ∙ ap (follow t doc rest') (reordered_inner inner inner' h.1 leaves ls ∙ ap (λ (b : Bool). inner_on t doc inner' b ls) h.0)

    reordered_inner : (i i' : Inner) → IsReorderedInner s t i i' → (leaves : Bool) (ls : List Location) → inner_on s doc i leaves ls ≡ inner_on t doc i' leaves ls
    reordered_inner (plain token) (plain token') h leaves ls = ap (λ (p : Plain). step doc p (if leaves then all_below doc ls else ls)) h
    reordered_inner (plain token) (tree.filter f') h leaves ls = absurd h
    reordered_inner (tree.filter f) (plain token') h leaves ls = absurd h
    reordered_inner (tree.filter f) (tree.filter f') h leaves ls =
        let base : List Location = if leaves then step doc every (all_below doc ls) else ls in
        (λ i. filter (λ c. reordered_holds f f' h c i) (candidates doc f base))
        ∙ ap (λ (b : Bool). filter (λ c. holds t doc f' c) (if b then flattened doc base else base)) (same_own s t f f' h)

    pub reordered_holds : (f f' : Condition) → IsReorderedCondition s t f f' → (c : Location) → holds s doc f c ≡ holds t doc f' c
    reordered_holds (lone p) (lone p') h c = ap is_some_location (reordered_reached p p' h c)
    reordered_holds (compare a o b) (compare a' o' b') h c =
        ap₂ (has_pair o) (reordered_values a a' h.1 c) (reordered_values b b' h.2 c)
        ∙ ap (λ (q : FilterToken). has_pair q (values t doc a' c) (values t doc b' c)) h.0
    reordered_holds (join o a b) (join o' a' b') (e, inl h) c =
        ap₂ (joined o) (reordered_holds a a' h.0 c) (reordered_holds b b' h.1 c)
        ∙ ap (λ (q : FilterToken). joined q (holds t doc a' c) (holds t doc b' c)) e
    reordered_holds (join o a b) (join o' a' b') (e, inr h) c =
        ap₂ (joined o) (reordered_holds a b' h.0 c) (reordered_holds b a' h.1 c)
        ∙ joined_swap o (holds t doc b' c) (holds t doc a' c)
        ∙ ap (λ (q : FilterToken). joined q (holds t doc a' c) (holds t doc b' c)) e
    reordered_holds _ _ h c = absurd h

    reordered_values : (x x' : Term) → IsReorderedTerm s t x x' → (c : Location) → values s doc x c ≡ values t doc x' c
    reordered_values (at_path p) (at_path p') h c = ap (values_at doc) (reordered_reached p p' h c)
    reordered_values (at_path p) (literal token') h c = absurd h
    reordered_values (literal token) (at_path p') h c = absurd h
    reordered_values (literal token) (literal token') h c = h

pub swapped_sides_select_alike : OrderIsFree
swapped_sides_select_alike s t doc p q h = reordered_reached s t doc p q h []
