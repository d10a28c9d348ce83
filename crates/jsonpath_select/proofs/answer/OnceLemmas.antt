-- A path without `..`, unions and lists of names outside filters selects no location twice.
use Rattle.std.proofs.Common.{ℕ, List, [], ◌∷◌, Bool, true, false, cond, not, true≢false, sym, IsTrue}
use Rattle.std.specs.List.{IsDistinct}
use Rattle.std.proofs.lemmas.Bool.{and_parts}
use Rattle.jsonpath_nodes.specs.document.Document.{Document}
use Rattle.jsonpath_paths.specs.tree.Tree as tree
use Rattle.jsonpath_paths.specs.tree.Tree.{path, PathSteps, no_steps, step_then, Inner, plain}
use Rattle.jsonpath_paths.specs.declared.token.tokens.ParseToken.{ParseToken}
use Rattle.jsonpath_paths.specs.declared.token.tokens.ParseToken.TheVariants as t
use Rattle.jsonpath_nodes.specs.place.Location.{Location}
use Rattle.jsonpath_nodes.specs.place.Order.{IsOrderedDocument}
use Rattle.jsonpath_nodes.specs.step.Separate.{HasNoRepeat, SelectsNoneTwice, StepHasNoRepeat, KeptHasNoRepeat, CandidatesStandApart, ApartHasNoRepeat}
use Rattle.jsonpath_nodes.specs.step.Steps.{flattened}
use Rattle.jsonpath_select.specs.SelectionLaws.{may_repeat, is_single_inner, has_single_steps, SelectsOnce}
use Rattle.jsonpath_select.specs.Meaning.{candidates, has_own_step, follow, holds, inner_on}
use Rattle.jsonpath_select.specs.Parts.{plain_of, index_in}
use Rattle.jsonpath_select.proofs.machine.StandingLemmas.{index_once}

once_token : (text : List ℕ) (token : ParseToken) → IsTrue (not (may_repeat token)) → SelectsNoneTwice (plain_of text token)
unfolding IsDistinct
once_token text (t.Keys ss) h = cc
once_token text (t.Union ns) h = cc
once_token text (t.Number d) h = index_once (index_in d)
once_token text _ h = tt

-- by the laws of steps and of candidates
module _ (step_once : StepHasNoRepeat) (kept_once : KeptHasNoRepeat) (apart : CandidatesStandApart) (apart_once : ApartHasNoRepeat) where
  module _ (text : List ℕ) (doc : Document) (ordered : IsOrderedDocument doc) where
    once_inner : (inner : Inner) (ls : List Location) → IsTrue (is_single_inner inner) → HasNoRepeat ls → HasNoRepeat (inner_on text doc inner false ls)
    once_inner (plain token) ls s once = step_once doc (plain_of text token) ls ordered (once_token text token s) once
    once_inner (tree.filter f) ls s once = kept_once (λ c. holds text doc f c) (candidates doc f ls) (by (has_own_step f))
      where
        by : (b : Bool) → HasNoRepeat (cond b (flattened doc ls) ls)
        by true = apart_once (flattened doc ls) (apart doc ls)
        by false = once

    once_follow : (steps : PathSteps) (ls : List Location) → IsTrue (has_single_steps steps) → HasNoRepeat ls → HasNoRepeat (follow text doc steps ls)
    once_follow no_steps ls s once = once
    once_follow (step_then true bracket inner rest) ls s once = absurd (true≢false (sym s))
    once_follow (step_then false bracket inner rest) ls s once =
        let parts = and_parts (is_single_inner inner) (has_single_steps rest) s in
        once_follow rest (inner_on text doc inner false ls) parts.1 (once_inner inner ls parts.0 once)

  pub paths_without_repeats_select_once : SelectsOnce
  unfolding IsDistinct
  paths_without_repeats_select_once text doc (path absolute steps) ordered s = once_follow text doc ordered steps (cond absolute [] [] ∷ []) s (tt, tt)
