use Rattle.std.proofs.Common.{◌≡◌, ◌∷◌, suc, map, drop, take}
use Rattle.jsonpath_nodes.specs.place.SpotPlace.{step_of}
use Rattle.jpath_edits.proofs.changed_value.split_by_step.Given as goal

abbrev pub invariant-loop-place : goal.invariant-loop-place
invariant-loop-place l = record {
  each : l.count ≡ l.place-index;
  here : map (drop l.depth) (take l.count l.places) ≡ map (λ x. step_of l.step ∷ x) (map (drop (suc l.depth)) (take l.count l.places));
}
