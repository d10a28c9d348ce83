use Rattle.std.proofs.Common.{List, map, ap, subst, ◌∙◌}
use Rattle.jsonpath_nodes.specs.place.Location.{Location}
use Rattle.jsonpath_nodes.specs.place.Mark.{MarksStandAt, shown}
use Rattle.jsonpath_select.specs.plan.LeadingOn.{is_among}
use Rattle.jsonpath_select.specs.plan.Machine.{Tagged, places}
use Rattle.jsonpath_select.specs.plan.Shown.{Shows}
use Rattle.jsonpath_select.proofs.walk.FollowerLemmas.{kept_numbers}
use Rattle.jsonpath_select.proofs.walk.follower.Follower.keep_standing_among.Goals as goal

pub returns : goal.returns
returns g c = λ ps ms shows others.
    let located = g.M.Mark.located in
    let stand = g.M.Mark.stand in
    let content = g.M.Mark.content in
    let doc = g.M.Mark.content c.args.self.now.root.now in
    let there = subst (λ (ls : List Location). MarksStandAt located stand content doc ls c.args.ahead.now.marks.items) others.2 others.1.1 in
    subst (λ (qs : List Tagged). Shows located stand content doc qs c.in_ok-keep_marks_at_indexes.field-0)
    (kept_numbers (is_among ms) ps c.as_slice-3.result.now (c.as_slice-3.ensures.value ∙ c.in_ok-numbers.ensures doc (places ps) ms (ap (map (shown stand content)) c.as_slice.ensures.value ∙ shows.1) (ap (map (shown stand content)) c.as_slice-2.ensures.value ∙ there)))
    (c.in_ok-keep_marks_at_indexes.ensures doc ps shows)
