use Rattle.std.proofs.Common.{◌≡◌, ◌++◌, ◌+◌, ◌-◌, length, map, replicate, sym, ap, ◌∙◌, take, drop, refl, arith}
use Rattle.jsonpath_nodes.specs.place.Mark.{shown}
use Rattle.jsonpath_select.specs.plan.Shown.{led}
use Rattle.jsonpath_select.proofs.tagged.GroupLemmas.{turn_next, turn_done, paired, filled}
use Rattle.jsonpath_select.proofs.tagged.moves.lead_each_candidate.Goals as goal

pub fill_tags-requires : goal.fill_tags-requires
fill_tags-requires g c =
    let whole : length c.as_slice.result.now ≡ length c.loop-tag.marks.items + c.in_ok-add_marks_after_move.ensures.0 = ap length c.as_slice.ensures.value ∙ c.in_ok-add_marks_after_move.ensures.1 in
    omega (arith, whole, c.loop-tag.invariant.2)

pub loop-tag-preserved : goal.loop-tag-preserved
loop-tag-preserved g c =
    let n = c.in_ok-add_marks_after_move.ensures.0 in
    let longer : length c.add_marks_after_move.new.out.items ≡ length c.loop-tag.marks.items + n = c.in_ok-add_marks_after_move.ensures.1 in
    let all : length c.as_slice.result.now ≡ length c.loop-tag.tags.items + n = ap length c.as_slice.ensures.value ∙ longer ∙ ap (λ m. m + n) (sym c.loop-tag.invariant.2) in
    let tags : c.fill_tags.new.tags.items ≡ c.loop-tag.tags.items ++ replicate n c.loop-tag.tag = filled c.loop-tag.tag (length c.as_slice.result.now) n c.loop-tag.tags.items all c.in_ok-fill_tags.ensures in (
      c.candidate_end_in_tags-end.ensures.within,
      c.loop-tag.invariant.1,
      paired c.loop-tag.tag n c.loop-tag.tags.items c.fill_tags.new.tags.items tags ∙ ap (λ m. m + n) c.loop-tag.invariant.2 ∙ sym longer,
      λ doc ps are.
          turn_next g.M.Mark.located g.M.Mark.stand g.M.Mark.content doc (led doc c.args.by) ps c.as_slice-old_tags.result.now c.as_slice-old_marks.result.now c.args.count c.loop-tag.tag c.loop-tag.from c.candidate_end_in_tags-end.result n
          c.loop-tag.tags.items c.fill_tags.new.tags.items c.loop-tag.marks.items c.add_marks_after_move.new.out.items (take (c.candidate_end_in_tags-end.result - c.loop-tag.from) (drop c.loop-tag.from c.as_slice-old_marks.result.now))
          are c.loop-tag-test.true c.candidate_end_in_tags-end.ensures.run refl longer tags (λ ls h. c.in_ok-add_marks_after_move.ensures.2 doc ls h) (c.loop-tag.invariant.3 doc ps are),
    )

pub returns : goal.returns
returns g c = λ doc ps are.
    turn_done g.M.Mark.located g.M.Mark.stand g.M.Mark.content doc (led doc c.args.by) ps c.args.count c.loop-tag.tag c.loop-tag.from c.loop-tag.tags.items c.loop-tag.marks.items (omega arith)
    (c.loop-tag.invariant.3 doc ps (c.as_slice-old_tags.ensures.value ∙ are.0, ap (map (shown g.M.Mark.stand g.M.Mark.content)) c.as_slice-old_marks.ensures.value ∙ are.1))
