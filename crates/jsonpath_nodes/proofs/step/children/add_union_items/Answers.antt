use Rattle.jsonpath_nodes.specs.document.Document.{array}
use Rattle.jsonpath_nodes.specs.place.Mark.{look_kept_from}
use Rattle.jsonpath_nodes.specs.step.Steps.{nth_of}
use Rattle.jsonpath_nodes.proofs.step.EachLemmas.{each_done, each_sights-flat_map}
use Rattle.jsonpath_nodes.proofs.step.children.add_union_items.Goals as goal

pub returns : goal.returns
returns g c =
    let d = array (g.M.Tree.Tree.items c.args.items) in
    let look = look_kept_from g.M.Descends.located (g.M.Descends.items_stand c.args.here.now) d in
    each_done (nth_of d) look c.loop-n.n-index c.args.ns.now _ _ _ c.loop-n-test.false c.loop-n.invariant (each_sights-flat_map (nth_of d) look c.args.ns.now)
