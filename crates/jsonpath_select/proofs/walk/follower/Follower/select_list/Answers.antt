use Rattle.jsonpath_select.specs.plan.Machine.{root_shared_by_candidates}
use Rattle.std.proofs.Common.{List, subst}
use Rattle.jsonpath_nodes.specs.place.Location.{Location}
use Rattle.jsonpath_nodes.specs.place.Mark.{MarksStandAt}
use Rattle.jsonpath_select.proofs.walk.follower.Follower.select_list.Goals as goal

pub returns : goal.returns
returns g c =
    let found = c.in_ok-found.ensures c.value_is_document.ensures root_shared_by_candidates.pairs c.in_ok-start.ensures.1 in
    subst (λ (ls : List Location). MarksStandAt g.M.Mark.located g.M.Mark.stand g.M.Mark.content (g.M.Mark.content c.args.self.now.root.now) ls c.in_ok-found.found.marks.items) found.2 found.1.1
