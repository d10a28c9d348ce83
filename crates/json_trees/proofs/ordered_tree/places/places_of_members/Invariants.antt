use Rattle.std.proofs.Common.{◌≡◌, ◌++◌, drop}
use Rattle.json.specs.Value.{members_view}
use Rattle.json_trees.specs.TreeOrder.{by_names}
use Rattle.json_trees.proofs.PlacesLemmas.{enumerated}
use Rattle.json_trees.proofs.ordered_tree.places.places_of_members.Given as goal

abbrev pub invariant-loop-place : goal.invariant-loop-place
invariant-loop-place l = by_names l.found.items ++ enumerated l.place (members_view (drop l.place l.members)) ≡ enumerated 0 (members_view l.members)
