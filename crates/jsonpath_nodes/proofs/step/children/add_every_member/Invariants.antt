use Rattle.std.proofs.Common.{◌≡◌, ◌++◌, ◌||◌, map}
use Rattle.jsonpath_nodes.specs.document.Find.{members_len}
use Rattle.jsonpath_nodes.specs.plan.Containers.{some_container}
use Rattle.jsonpath_nodes.specs.place.Mark.{shown}
use Rattle.jsonpath_nodes.proofs.place.KeptLemmas.{shown_members}
use Rattle.jsonpath_nodes.proofs.step.children.add_every_member.Given as goal

abbrev pub invariant-loop-name : goal.invariant-loop-name
invariant-loop-name g l =
    let left = g.M.Tree.Tree.members_left l.left in
    let all = g.M.Tree.Tree.members l.fn.members in
    (map (shown g.M.Descends.stand g.M.Descends.content) l.out.items ++ shown_members g.M.Descends.located (g.M.Descends.members_stand l.here) left
    ≡ map (shown g.M.Descends.stand g.M.Descends.content) l.initial.out.items ++ shown_members g.M.Descends.located (g.M.Descends.members_stand l.here) all)
    × ((l.holds || some_container left) ≡ some_container all)

abbrev pub decreases-loop-name : goal.decreases-loop-name
decreases-loop-name g l = members_len (g.M.Tree.Tree.members_left l.left)
