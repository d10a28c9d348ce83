use Rattle.jsonpath_nodes.specs.place.Location.{flat}
use Rattle.jsonpath_nodes.specs.step.Candidates.{flat_members}
use Rattle.jsonpath_nodes.proofs.place.KeptLemmas.{members_gained}
use Rattle.jsonpath_nodes.proofs.place.WayLemmas.{stays-stand}
use Rattle.jsonpath_nodes.proofs.step.ChildLemmas.{flat_members-kids}
use Rattle.jsonpath_nodes.proofs.step.candidates.add_flattened_members.Goals as goal

pub returns-clause-gains : goal.returns-clause-gains
returns-clause-gains g c =
    let b = g.M.Descends.located in
    let all = g.M.Tree.Tree.members c.args.members in
    let first = c.members_here.new.way in
    let same = stays-stand b (g.M.Descends.start c.args.way.now) (g.M.Descends.start first) (g.M.Descends.steps c.args.way.now) (g.M.Descends.steps first) c.in_ok-here.ensures.stays in
    members_gained b flat _ _ (g.M.Tree.Tree.members_left c.loop-name.left) all _ _ (flat_members all) c.each_member-left.ensures.ordered same c.in_default.ensures c.loop-name.invariant.gains (flat_members-kids all)
