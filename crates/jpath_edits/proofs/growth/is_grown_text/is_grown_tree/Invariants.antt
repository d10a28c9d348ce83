use Rattle.std.proofs.Common.{◌≡◌, map, drop}
use Rattle.json.specs.Value.{value_view}
use Rattle.jsonpath_nodes.specs.place.Owned.{owned_steps}
use Rattle.jpath_edits.specs.Grown.{grown_all}
use Rattle.jpath_edits.proofs.growth.is_grown_text.is_grown_tree.Given as goal

-- if what is left is grown in the containers that are left, the whole is grown in all
abbrev pub invariant-loop-container : goal.invariant-loop-container
invariant-loop-container l =
    value_view l.left ≡ grown_all l.growth (map (λ c. owned_steps c.now) (drop l.container-index l.containers)) (value_view l.exact)
    → value_view l.initial.left ≡ grown_all l.growth (map (λ c. owned_steps c.now) l.containers) (value_view l.exact)
