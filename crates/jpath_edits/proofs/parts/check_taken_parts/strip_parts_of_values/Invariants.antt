use Rattle.std.proofs.Common.{ℕ, List, map, drop}
use Rattle.json.specs.Value.{value_view}
use Rattle.jsonpath_nodes.specs.place.Owned.{owned_step}
use Rattle.jpath_edits.specs.Changed.{AreChildrenBefore, part_text}
use Rattle.jpath_edits.proofs.parts.check_taken_parts.strip_parts_of_values.Given as goal

-- if the parts that are left begin with the values that are left, all the parts begin with all the values
abbrev pub invariant-loop-member : goal.invariant-loop-member
invariant-loop-member l = (others : List (List ℕ))
    → AreChildrenBefore (owned_step l.step) (map (λ m. value_view m.value.now) (drop l.member-index l.values)) (map (part_text l.text) l.left) others
    → AreChildrenBefore (owned_step l.step) (map (λ m. value_view m.value.now) l.values) (map (part_text l.text) l.parts) others
