use Rattle.std.proofs.Common.{◌≡◌, ◌+◌, ◌++◌, map}
use Rattle.jsonpath_nodes.specs.document.Find.{items_len}
use Rattle.jsonpath_nodes.specs.place.Mark.{shown}
use Rattle.jsonpath_nodes.proofs.place.KeptLemmas.{shown_items}
use Rattle.jsonpath_nodes.proofs.step.children.add_every_item.Given as goal

abbrev pub invariant-loop-item : goal.invariant-loop-item
invariant-loop-item g l =
    let left = g.M.Tree.Tree.items_left l.left in
    let all = g.M.Tree.Tree.items l.fn.items in
    record {
      gains : map (shown g.M.Descends.stand g.M.Descends.content) l.out.items ++ shown_items g.M.Descends.located (g.M.Descends.items_stand l.here) l.i left
          ≡ map (shown g.M.Descends.stand g.M.Descends.content) l.initial.out.items ++ shown_items g.M.Descends.located (g.M.Descends.items_stand l.here) 0 all;
      count : l.i + items_len left ≡ items_len all;
    }

abbrev pub decreases-loop-item : goal.decreases-loop-item
decreases-loop-item g l = items_len (g.M.Tree.Tree.items_left l.left)
