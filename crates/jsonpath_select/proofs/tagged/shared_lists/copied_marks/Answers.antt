use Rattle.std.proofs.Common.{◌≡◌, map, take, length, ap, ◌∙◌, arith}
use Rattle.std.proofs.Math.Seq.{take-length}
use Rattle.jsonpath_nodes.specs.place.Mark.{shown}
use Rattle.jsonpath_select.proofs.filters.SliceLemmas.{one_copied}
use Rattle.jsonpath_select.proofs.tagged.shared_lists.copied_marks.Goals as goal

pub loop-mark-preserved : goal.loop-mark-preserved
loop-mark-preserved g c =
    one_copied (shown g.M.Mark.stand g.M.Mark.content) c.args.marks.now c.loop-mark.found.items c.push.new.self.items c.loop-mark.mark-index c.mark-item.result c.in_ok-copy.field-0
    c.loop-mark-test.true c.mark-item.is c.in_ok-push.ensures.items c.in_ok-copy.ensures c.loop-mark.invariant

pub returns : goal.returns
returns g c =
    let end : c.loop-mark.mark-index ≡ length c.args.marks.now = omega arith in
    c.loop-mark.invariant ∙ ap (map (shown g.M.Mark.stand g.M.Mark.content)) (ap (λ n. take n c.args.marks.now) end ∙ take-length c.args.marks.now)
