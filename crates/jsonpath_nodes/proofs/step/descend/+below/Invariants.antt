use Rattle.std.proofs.Common.{◌≡◌, ◌≤◌, ◌+◌, ◌*◌, ◌++◌, map}
use Rattle.jsonpath_nodes.specs.document.Document.{depth, items_depth, members_depth}
use Rattle.jsonpath_nodes.specs.document.Find.{items_len, members_len}
use Rattle.jsonpath_nodes.specs.place.Location.{below}
use Rattle.jsonpath_nodes.specs.place.Mark.{shown}
use Rattle.jsonpath_nodes.specs.plan.Way.{way_stand, Stays}
use Rattle.jsonpath_nodes.proofs.place.KeptLemmas.{seen_items, seen_members}
use Rattle.jsonpath_nodes.proofs.step.descend.+below.Given as goal

abbrev pub decreases-add_all_under : goal.decreases-add_all_under
decreases-add_all_under g l = 3 * depth (g.M.Tree.Tree.content l.value) + 1

abbrev pub decreases-add_all_under_child : goal.decreases-add_all_under_child
decreases-add_all_under_child g l = 3 * depth (g.M.Tree.Tree.content l.value) + 2

abbrev pub decreases-add_items_and_all_below : goal.decreases-add_items_and_all_below
decreases-add_items_and_all_below g l = 3 * items_depth (g.M.Tree.Tree.items l.items) + 3

abbrev pub decreases-add_members_and_all_below : goal.decreases-add_members_and_all_below
decreases-add_members_and_all_below g l = 3 * members_depth (g.M.Tree.Tree.members l.members) + 3

abbrev pub invariant-add_items_and_all_below-loop-item : goal.invariant-add_items_and_all_below-loop-item
invariant-add_items_and_all_below-loop-item g l =
    let b = g.M.Descends.located in
    let left = g.M.Tree.Tree.items_left l.left in
    let all = g.M.Tree.Tree.items l.fn.items in
    let place = way_stand b (g.M.Descends.start l.initial.way) (g.M.Descends.steps l.initial.way) in
    let show = shown g.M.Descends.stand g.M.Descends.content in
    record {
      gains : map show l.out.items ++ seen_items b below place l.i left ≡ map show l.initial.out.items ++ seen_items b below place 0 all;
      stays : Stays b (g.M.Descends.start l.initial.way) (g.M.Descends.steps l.initial.way) (g.M.Descends.start l.way) (g.M.Descends.steps l.way);
      here : g.M.Descends.items_stand l.here ≡ place;
      count : l.i + items_len left ≡ items_len all;
      within : items_depth left ≤ items_depth all;
    }

abbrev pub decreases-add_items_and_all_below-loop-item : goal.decreases-add_items_and_all_below-loop-item
decreases-add_items_and_all_below-loop-item g l = items_len (g.M.Tree.Tree.items_left l.left)

abbrev pub invariant-add_members_and_all_below-loop-name : goal.invariant-add_members_and_all_below-loop-name
invariant-add_members_and_all_below-loop-name g l =
    let b = g.M.Descends.located in
    let left = g.M.Tree.Tree.members_left l.left in
    let all = g.M.Tree.Tree.members l.fn.members in
    let place = way_stand b (g.M.Descends.start l.initial.way) (g.M.Descends.steps l.initial.way) in
    let show = shown g.M.Descends.stand g.M.Descends.content in
    record {
      gains : map show l.out.items ++ seen_members b below place left ≡ map show l.initial.out.items ++ seen_members b below place all;
      stays : Stays b (g.M.Descends.start l.initial.way) (g.M.Descends.steps l.initial.way) (g.M.Descends.start l.way) (g.M.Descends.steps l.way);
      here : g.M.Descends.members_stand l.here ≡ place;
      within : members_depth left ≤ members_depth all;
    }

abbrev pub decreases-add_members_and_all_below-loop-name : goal.decreases-add_members_and_all_below-loop-name
decreases-add_members_and_all_below-loop-name g l = members_len (g.M.Tree.Tree.members_left l.left)
