use Rattle.std.proofs.Common.{◌≡◌, ◌++◌, map, refl, subst}
use Rattle.jsonpath_nodes.specs.document.Document.{array}
use Rattle.jsonpath_nodes.specs.place.Mark.{shown, look_kept_from}
use Rattle.jsonpath_nodes.specs.step.Steps.{single_steps, every}
use Rattle.jsonpath_nodes.proofs.place.KeptLemmas.{shown_items, items_end, children_of_items}
use Rattle.jsonpath_nodes.proofs.step.children.add_every_item.Goals as goal

pub returns : goal.returns
returns g c =
    let b = g.M.Descends.located in
    let l = g.M.Descends.items_stand c.args.here.now in
    let whole = g.M.Tree.Tree.items c.args.items in
    let show = shown g.M.Descends.stand g.M.Descends.content in
    subst (λ before. map show c.loop-item.out.items ≡ map show before ++ map (look_kept_from b l (array whole)) (single_steps every (array whole))) c.in_ok-make_room.ensures
    (items_end (shown_items b l) c.loop-item.i (g.M.Tree.Tree.items_left c.loop-item.left) whole _ _ _ (λ n. refl) c.in_default.ensures c.loop-item.invariant.gains
    (children_of_items b l whole))
