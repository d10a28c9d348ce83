use Rattle.std.proofs.Common.{◌≡◌, List, take, length, ap, subst, ◌∙◌, arith}
use Rattle.std.proofs.Math.Seq.{take-length}
use Rattle.jsonpath_nodes.specs.place.Location.{Location}
use Rattle.jsonpath_nodes.specs.place.Mark.{MarksStandAt}
use Rattle.jsonpath_nodes.specs.step.Candidates.{candidates_below}
use Rattle.jsonpath_nodes.specs.step.Steps.{from_each}
use Rattle.jsonpath_select.proofs.walk.MarkLemmas.{length-marks}
use Rattle.jsonpath_select.proofs.filters.GainedLemmas.{one_more}
use Rattle.jsonpath_select.proofs.filters.select_list.candidates_below_each.Goals as goal

pub loop-mark-preserved : goal.loop-mark-preserved
loop-mark-preserved g c = λ doc ls stand.
    one_more g.M.Mark.located g.M.Mark.stand g.M.Mark.content candidates_below doc ls c.args.marks.now c.loop-mark.mark-index c.mark-item.result c.loop-mark.found.items c.add_candidates_below.new.out.items stand c.loop-mark-test.true c.mark-item.is c.in_ok-add_candidates_below.ensures.gains
    (c.loop-mark.invariant doc ls stand)

pub returns : goal.returns
returns g c = λ doc ls stand.
    let same : length c.args.marks.now ≡ length ls = length-marks g.M.Mark.located g.M.Mark.stand g.M.Mark.content doc ls c.args.marks.now stand in
    let end : c.loop-mark.mark-index ≡ length ls = omega arith in
    let all : take c.loop-mark.mark-index ls ≡ ls = ap (λ n. take n ls) end ∙ take-length ls in
    subst (λ (ks : List Location). MarksStandAt g.M.Mark.located g.M.Mark.stand g.M.Mark.content doc (from_each doc candidates_below ks) c.loop-mark.found.items) all (c.loop-mark.invariant doc ls stand)
