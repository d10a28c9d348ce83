use Rattle.std.proofs.Common.{◌≡◌, ◌++◌, ◌||◌, map}
use Rattle.jsonpath_nodes.specs.document.Find.{members_len}
use Rattle.jsonpath_nodes.specs.place.Location.{flat}
use Rattle.jsonpath_nodes.specs.place.Mark.{shown}
use Rattle.jsonpath_nodes.specs.plan.Containers.{some_container}
use Rattle.jsonpath_nodes.specs.plan.Way.{way_stand, Stays}
use Rattle.jsonpath_nodes.proofs.place.KeptLemmas.{seen_members}
use Rattle.jsonpath_nodes.proofs.step.candidates.add_flattened_members.Given as goal

abbrev pub invariant-loop-name : goal.invariant-loop-name
invariant-loop-name g l =
    let b = g.M.Descends.located in
    let left = g.M.Tree.Tree.members_left l.left in
    let all = g.M.Tree.Tree.members l.fn.members in
    let place = way_stand b (g.M.Descends.start l.initial.way) (g.M.Descends.steps l.initial.way) in
    let show = shown g.M.Descends.stand g.M.Descends.content in
    record {
      gains : map show l.out.items ++ seen_members b flat place left ≡ map show l.initial.out.items ++ seen_members b flat place all;
      stays : Stays b (g.M.Descends.start l.initial.way) (g.M.Descends.steps l.initial.way) (g.M.Descends.start l.way) (g.M.Descends.steps l.way);
      here : g.M.Descends.members_stand l.here ≡ place;
      holds : (l.holds || some_container left) ≡ some_container all;
    }

abbrev pub decreases-loop-name : goal.decreases-loop-name
decreases-loop-name g l = members_len (g.M.Tree.Tree.members_left l.left)
