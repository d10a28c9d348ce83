use Rattle.jsonpath_nodes.specs.place.Location.{flat, flat_items}
use Rattle.jsonpath_nodes.proofs.place.KeptLemmas.{items_gained}
use Rattle.jsonpath_nodes.proofs.place.WayLemmas.{stays-stand}
use Rattle.jsonpath_nodes.proofs.step.ChildLemmas.{flat_items-kids}
use Rattle.jsonpath_nodes.proofs.step.candidates.+add_flattened_items.Goals as goal

pub returns-clause-gains : goal.returns-clause-gains
returns-clause-gains g t c =
    let b = g.M.Descends.located in
    let all = g.M.Tree.Tree.items c.args.items in
    let first = c.items_here.new.way in
    let same = stays-stand b (g.M.Descends.start c.args.way.now) (g.M.Descends.start first) (g.M.Descends.steps c.args.way.now) (g.M.Descends.steps first) c.in_ok-here.ensures.stays in
    items_gained b flat _ _ c.loop-item.i (g.M.Tree.Tree.items_left c.loop-item.left) all _ _ (flat_items 0 all) same c.in_default.ensures c.loop-item.invariant.gains (flat_items-kids 0 all)
