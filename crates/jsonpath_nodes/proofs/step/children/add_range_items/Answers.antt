use Rattle.std.proofs.Common.{◌++◌, List, map, ap, ◌∙◌}
use Rattle.jsonpath_nodes.specs.document.Document.{array}
use Rattle.jsonpath_nodes.specs.place.Location.{Location}
use Rattle.jsonpath_nodes.specs.place.Mark.{shown, look_kept_from}
use Rattle.jsonpath_nodes.proofs.step.BetweenLemmas.{range_here}
use Rattle.jsonpath_nodes.proofs.step.children.add_range_items.Goals as goal

pub returns : goal.returns
returns g c =
    let d = array (g.M.Tree.Tree.items c.args.items) in
    let look = look_kept_from g.M.Descends.located (g.M.Descends.items_stand c.args.here.now) d in
    c.in_ok-add_items_between.ensures
    ∙ ap (λ (ls : List Location). map (shown g.M.Descends.stand g.M.Descends.content) c.args.out.now.items ++ map look ls)
    (range_here d c.args.from c.args.to c.args.step c.len-len.result c.range_bound-first.result c.range_bound-end.result c.unwrap_or.result c.len-len.ensures c.range_bound-first.ensures.value c.range_bound-end.ensures.value c.unwrap_or.ensures)
