use Rattle.std.proofs.Common.{◌≡◌, ◌≤◌, ◌-◌, None, drop, length}
use Rattle.json.specs.Value.{members_view}
use Rattle.json_trees.specs.OrderedTree.{places}
use Rattle.json_trees.proofs.PlacesLemmas.{found}
use Rattle.json_trees.proofs.ordered_tree.handle.OrderedMembers.member.Given as goal

abbrev pub invariant-loop-low : goal.invariant-loop-low
invariant-loop-low l =
    let ms = members_view l.self.members.now.items in
    let es = places ms in
    (found ms l.name (drop l.low es) ≡ found ms l.name es)
    × (found ms l.name (drop l.high es) ≡ None)
    × (l.low ≤ l.high)
    × (l.high ≤ length es)

abbrev pub decreases-loop-low : goal.decreases-loop-low
decreases-loop-low l = l.high - l.low
