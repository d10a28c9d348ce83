use Rattle.std.proofs.Common.{◌≡◌, suc, map, drop}
use Rattle.jsonpath_nodes.specs.update.Topmost.{has_root}
use Rattle.jpath_edits.proofs.changed_value.is_place_of_child.Given as goal

abbrev pub invariant-loop-place : goal.invariant-loop-place
invariant-loop-place l = has_root (map (drop (suc l.depth)) (drop l.place-index l.places)) ≡ has_root (map (drop (suc l.depth)) l.places)
