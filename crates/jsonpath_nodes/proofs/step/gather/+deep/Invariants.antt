use Rattle.std.proofs.Common.{◌≡◌, ◌≤◌, ◌+◌, ◌*◌, ◌++◌, map}
use Rattle.jsonpath_nodes.specs.document.Document.{depth, items_depth, members_depth}
use Rattle.jsonpath_nodes.specs.document.Find.{items_len, members_len}
use Rattle.jsonpath_nodes.specs.place.Mark.{shown}
use Rattle.jsonpath_nodes.specs.place.Order.{AreOrderedDocuments, HoldOrderedDocuments}
use Rattle.jsonpath_nodes.specs.plan.Way.{way_stand, Stays}
use Rattle.jsonpath_nodes.specs.plan.Gathered.{gathered_at, all_gathered}
use Rattle.jsonpath_nodes.proofs.place.KeptLemmas.{seen_items, seen_members}
use Rattle.jsonpath_nodes.proofs.step.gather.+deep.Given as goal

abbrev pub decreases-add_at_or_below : goal.decreases-add_at_or_below
decreases-add_at_or_below g l = 3 * depth (g.M.Tree.Tree.content l.value) + 1

abbrev pub decreases-add_at_or_below_child : goal.decreases-add_at_or_below_child
decreases-add_at_or_below_child g l = 3 * depth (g.M.Tree.Tree.content l.value) + 2

abbrev pub decreases-add_at_or_below_array : goal.decreases-add_at_or_below_array
decreases-add_at_or_below_array g l = 3 * items_depth (g.M.Tree.Tree.items l.items) + 3

abbrev pub decreases-add_at_or_below_object : goal.decreases-add_at_or_below_object
decreases-add_at_or_below_object g l = 3 * members_depth (g.M.Tree.Tree.members l.members) + 3

abbrev pub invariant-add_at_or_below_array-loop-item : goal.invariant-add_at_or_below_array-loop-item
invariant-add_at_or_below_array-loop-item g l =
    let b = g.M.Descends.located in
    let left = g.M.Tree.Tree.items_left l.left in
    let all = g.M.Tree.Tree.items l.fn.items in
    let place = way_stand b (g.M.Descends.start l.initial.way) (g.M.Descends.steps l.initial.way) in
    let show = shown g.M.Descends.stand g.M.Descends.content in
    record {
      gains : map show l.out.items ++ seen_items b (all_gathered (gathered_at (g.G.Gathers.what l.what))) place l.i left ≡ map show l.initial.out.items ++ seen_items b (all_gathered (gathered_at (g.G.Gathers.what l.what))) place 0 all;
      stays : Stays b (g.M.Descends.start l.initial.way) (g.M.Descends.steps l.initial.way) (g.M.Descends.start l.way) (g.M.Descends.steps l.way);
      documents : AreOrderedDocuments left → AreOrderedDocuments all;
      count : l.i + items_len left ≡ items_len all;
      within : items_depth left ≤ items_depth all;
    }

abbrev pub decreases-add_at_or_below_array-loop-item : goal.decreases-add_at_or_below_array-loop-item
decreases-add_at_or_below_array-loop-item g l = items_len (g.M.Tree.Tree.items_left l.left)

abbrev pub invariant-add_at_or_below_object-loop-name : goal.invariant-add_at_or_below_object-loop-name
invariant-add_at_or_below_object-loop-name g l =
    let b = g.M.Descends.located in
    let left = g.M.Tree.Tree.members_left l.left in
    let all = g.M.Tree.Tree.members l.fn.members in
    let place = way_stand b (g.M.Descends.start l.initial.way) (g.M.Descends.steps l.initial.way) in
    let show = shown g.M.Descends.stand g.M.Descends.content in
    record {
      gains : map show l.out.items ++ seen_members b (all_gathered (gathered_at (g.G.Gathers.what l.what))) place left ≡ map show l.initial.out.items ++ seen_members b (all_gathered (gathered_at (g.G.Gathers.what l.what))) place all;
      stays : Stays b (g.M.Descends.start l.initial.way) (g.M.Descends.steps l.initial.way) (g.M.Descends.start l.way) (g.M.Descends.steps l.way);
      documents : HoldOrderedDocuments left → HoldOrderedDocuments all;
      within : members_depth left ≤ members_depth all;
    }

abbrev pub decreases-add_at_or_below_object-loop-name : goal.decreases-add_at_or_below_object-loop-name
decreases-add_at_or_below_object-loop-name g l = members_len (g.M.Tree.Tree.members_left l.left)
