use Rattle.std.proofs.Common.{◌≡◌, List, [], ◌∷◌, Bool, ◌&&◌, refl, sym, ap, ◌∙◌, rules}
use Rattle.std.specs.List.{starts_with}
use Rattle.std.specs.Cmp.{eq_by_cmp_equiv}
use Rattle.std.specs.Ordering.{eq_by_cmp, on}
use Rattle.jsonpath_nodes.specs.declared.place.location.LocStep.{LocStep}
use Rattle.jsonpath_nodes.specs.place.Location.{step_cmp}
use Rattle.jsonpath_nodes.specs.place.Order.{step_total}
use Rattle.jsonpath_nodes.specs.place.Owned.{owned_step, owned_steps}
use Rattle.jsonpath_nodes.specs.update.Topmost.{same_step, begins_with}
use Rattle.jsonpath_nodes.proofs.update.SetLemmas.{step_eq}
use Rattle.jsonpath_nodes.proofs.place.location.Location.is_at_or_below.Goals as goal

begins : (steps first : List LocStep) → starts_with (on owned_step (eq_by_cmp step_cmp)) steps first ≡ begins_with (owned_steps first) (owned_steps steps)
begins [] [] = refl
begins (t ∷ steps) [] = refl
begins [] (s ∷ first) = refl
begins (t ∷ steps) (s ∷ first) =
    ap (λ (x : Bool). x && starts_with (on owned_step (eq_by_cmp step_cmp)) steps first)
    ((eq_by_cmp_equiv step_total).symm (owned_step s) (owned_step t) ∙ sym (step_eq (owned_step t) (owned_step s)))
    ∙ ap (λ (x : Bool). same_step (owned_step t) (owned_step s) && x) (begins steps first)

pub returns : goal.returns
returns c = c.starts_with.ensures.value ∙ begins c.as_slice.result.now c.as_slice-2.result.now ∙ search rules
