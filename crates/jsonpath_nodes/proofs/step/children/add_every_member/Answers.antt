use Rattle.std.proofs.Common.{refl}
use Rattle.jsonpath_nodes.proofs.place.KeptLemmas.{shown_members, members_end, children_of_members}
use Rattle.jsonpath_nodes.proofs.step.children.add_every_member.Goals as goal

pub returns-clause-gains : goal.returns-clause-gains
returns-clause-gains g c =
    let b = g.M.Descends.located in
    let l = g.M.Descends.members_stand c.args.here.now in
    let whole = g.M.Tree.Tree.members c.args.members in
    members_end (shown_members b l) (g.M.Tree.Tree.members_left c.loop-name.left) whole _ _ _ refl c.in_default.ensures c.loop-name.invariant.0
    (children_of_members b l whole c.each_member-left.ensures.ordered)
