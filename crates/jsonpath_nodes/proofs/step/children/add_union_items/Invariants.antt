use Rattle.std.proofs.Common.{◌≡◌, ◌++◌, map, drop}
use Rattle.jsonpath_nodes.specs.document.Document.{array}
use Rattle.jsonpath_nodes.specs.place.Mark.{shown, look_kept_from}
use Rattle.jsonpath_nodes.specs.step.Steps.{nth_of}
use Rattle.jsonpath_nodes.proofs.step.EachLemmas.{each_sights}
use Rattle.jsonpath_nodes.proofs.step.children.add_union_items.Given as goal

abbrev pub invariant-loop-n : goal.invariant-loop-n
invariant-loop-n g l =
    let d = array (g.M.Tree.Tree.items l.items) in
    let look = look_kept_from g.M.Descends.located (g.M.Descends.items_stand l.here) d in
    map (shown g.M.Descends.stand g.M.Descends.content) l.out.items ++ each_sights (nth_of d) look (drop l.n-index l.ns)
    ≡ map (shown g.M.Descends.stand g.M.Descends.content) l.initial.out.items ++ each_sights (nth_of d) look l.ns
