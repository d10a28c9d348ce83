-- In the manner of lists a path means what it means.
use Rattle.std.proofs.Common.{◌≡◌, ℕ, Bool, true, false, List, [], ◌∷◌, refl, ap, ap₂, ◌∙◌, filter}
use Rattle.jsonpath_nodes.specs.document.Document.{Document}
use Rattle.jsonpath_paths.specs.tree.Tree.{Path, path, PathSteps, no_steps, step_then, Inner, plain, Condition, lone, compare, join, Term, at_path, literal}
use Rattle.jsonpath_paths.specs.tree.Tree as tree
use Rattle.jsonpath_nodes.specs.place.Location.{Location}
use Rattle.jsonpath_nodes.specs.step.Steps.{every, step, all_below}
use Rattle.jsonpath_select.specs.Meaning.{reached, follow, inner_on, holds, values, candidates, is_some_location, values_at}
use Rattle.jsonpath_select.specs.Parts.{has_pair, joined}
use Rattle.jsonpath_select.specs.plan.Manner.{reached_in, follow_in, inner_in, holds_in, values_in}

module _ (text : List ℕ) (doc : Document) where
  mutual
    pub lists_reach : (p : Path) (l : Location) → reached_in false text doc p l ≡ reached text doc p l
    lists_reach (path true ss) l = lists_follow ss ([] ∷ [])
    lists_reach (path false ss) l = lists_follow ss (l ∷ [])

    pub lists_follow : (ss : PathSteps) (ls : List Location) → follow_in false text doc ss ls ≡ follow text doc ss ls
    lists_follow no_steps ls = refl
    lists_follow (step_then leaves bracket inner rest) ls = lists_follow rest (inner_in false text doc inner leaves ls) ∙ ap (follow text doc rest) (lists_inner inner leaves ls)

    pub lists_inner : (inner : Inner) (leaves : Bool) (ls : List Location) → inner_in false text doc inner leaves ls ≡ inner_on text doc inner leaves ls
    lists_inner (plain token) true ls = refl
    lists_inner (plain token) false ls = refl
    lists_inner (tree.filter f) true ls = λ i. filter (λ c. lists_hold f c i) (candidates doc f (step doc every (all_below doc ls)))
    lists_inner (tree.filter f) false ls = λ i. filter (λ c. lists_hold f c i) (candidates doc f ls)

    pub lists_hold : (f : Condition) (c : Location) → holds_in false text doc f c ≡ holds text doc f c
    lists_hold (lone p) c = ap is_some_location (lists_reach p c)
    lists_hold (compare a op b) c = ap₂ (has_pair op) (lists_value a c) (lists_value b c)
    lists_hold (join op a b) c = ap₂ (joined op) (lists_hold a c) (lists_hold b c)

    lists_value : (a : Term) (c : Location) → values_in false text doc a c ≡ values text doc a c
    lists_value (at_path p) c = ap (values_at doc) (lists_reach p c)
    lists_value (literal token) c = refl
