use Rattle.std.proofs.Common.{[], ◌∷◌, ◌++◌, List, refl, ap, ◌∙◌}
use Rattle.jsonpath_select.specs.declared.tagged.marks.Found.{Found}
use Rattle.jsonpath_select.proofs.machine.machine.Machine.stacks_at_start.Goals as goal

pub returns : goal.returns
returns g c =
    (([], c.in_ok-first.first, c.in_ok-push.ensures.items ∙ ap (λ (xs : List (Found g.row.M.Denot)). xs ++ c.in_ok-first.first ∷ []) c.new-frames.ensures.items, c.in_ok-first.ensures, refl), c.new-operands.ensures.items)
