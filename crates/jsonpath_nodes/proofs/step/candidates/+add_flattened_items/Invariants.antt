use Rattle.std.proofs.Common.{◌≡◌, ◌≤◌, ◌+◌, ◌++◌, map}
use Rattle.jsonpath_nodes.specs.document.Document.{items_depth}
use Rattle.jsonpath_nodes.specs.document.Find.{items_len}
use Rattle.jsonpath_nodes.specs.place.Location.{flat}
use Rattle.jsonpath_nodes.specs.place.Mark.{shown}
use Rattle.jsonpath_nodes.specs.plan.Way.{way_stand, Stays}
use Rattle.jsonpath_nodes.proofs.place.KeptLemmas.{seen_items}
use Rattle.jsonpath_nodes.proofs.step.candidates.+add_flattened_items.Given as goal

abbrev pub decreases-add_flattened_items : goal.decreases-add_flattened_items
decreases-add_flattened_items g l = items_depth (g.M.Tree.Tree.items l.items)

abbrev pub invariant-loop-item : goal.invariant-loop-item
invariant-loop-item g l =
    let b = g.M.Descends.located in
    let left = g.M.Tree.Tree.items_left l.left in
    let all = g.M.Tree.Tree.items l.fn.items in
    let place = way_stand b (g.M.Descends.start l.initial.way) (g.M.Descends.steps l.initial.way) in
    let show = shown g.M.Descends.stand g.M.Descends.content in
    record {
      gains : map show l.out.items ++ seen_items b flat place l.i left ≡ map show l.initial.out.items ++ seen_items b flat place 0 all;
      stays : Stays b (g.M.Descends.start l.initial.way) (g.M.Descends.steps l.initial.way) (g.M.Descends.start l.way) (g.M.Descends.steps l.way);
      here : g.M.Descends.items_stand l.here ≡ place;
      count : l.i + items_len left ≡ items_len all;
      within : items_depth left ≤ items_depth all;
    }

abbrev pub decreases-loop-item : goal.decreases-loop-item
decreases-loop-item g l = items_len (g.M.Tree.Tree.items_left l.left)
