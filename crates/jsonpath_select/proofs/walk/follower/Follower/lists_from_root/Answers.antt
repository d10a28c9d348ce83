use Rattle.std.proofs.Common.{List, sym, subst}
use Rattle.std.proofs.lemmas.Result.{IfOk-weaker}
use Rattle.jsonpath_nodes.specs.place.Location.{Location}
use Rattle.jsonpath_select.specs.plan.LeadingOn.{AreAfterEach, AreAt, leading_from_root}
use Rattle.jsonpath_select.specs.declared.tagged.marks.TaggedMarks.{TaggedMarks}
use Rattle.jsonpath_select.proofs.walk.WalkLemmas.{all_steps}
use Rattle.jsonpath_select.proofs.walk.follower.Follower.lists_from_root.Goals as goal

pub returns : goal.returns
returns g c =
    let located = g.M.Mark.located in
    let stand = g.M.Mark.stand in
    let content = g.M.Mark.content in
    let text = c.args.self.now.text.now in
    let doc = g.M.Mark.content c.args.self.now.root.now in
    let ss = c.as_slice-steps.result.now in
    IfOk-weaker c.lists_among.result _ _
    (λ found leads ordered ps shows.
    let kept = subst (λ (all : List (TaggedMarks g.row.M.Denot)). AreAfterEach located stand content doc (leading_from_root c.args.self.now.sets text doc ss) all) (sym c.as_slice.ensures.value) (c.in_ok-kept.ensures.places ordered (c.in_ok-sets.ensures.places ps shows)) in
    subst (λ (ls : List Location). AreAt located stand content doc ls found) (all_steps text doc c.args.path.now ss c.as_slice-steps.ensures.value) (leads ordered ps shows kept))
    c.lists_among.ensures

pub returns-then-not-keeps_what_leads_on : goal.returns-then-not-keeps_what_leads_on
returns-then-not-keeps_what_leads_on g c =
    let doc = g.M.Mark.content c.args.self.now.root.now in
    IfOk-weaker c.lists_after_steps.result _ _
    (λ found leads ordered ps shows.
    subst (λ (ls : List Location). AreAt g.M.Mark.located g.M.Mark.stand g.M.Mark.content doc ls found) (all_steps c.args.self.now.text.now doc c.args.path.now c.as_slice-steps.result.now c.as_slice-steps.ensures.value) (leads ordered ps shows))
    c.lists_after_steps.ensures
