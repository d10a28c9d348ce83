use Rattle.std.proofs.Common.{◌+◌, map, ap, sym, ◌∙◌, length, length-append}
use Rattle.jsonpath_nodes.specs.place.Mark.{shown}
use Rattle.jsonpath_select.proofs.machine.StepLemmas.{copied_next}
use Rattle.jsonpath_select.proofs.tagged.start_of_paths.numbered_candidates.Goals as goal

pub loop-tag-preserved : goal.loop-tag-preserved
loop-tag-preserved g c = (
  simp length-append at (ap length c.in_ok-push.ensures.items) ∙ ap (λ n. n + 1) c.loop-tag.invariant.0 ∙ sym (simp length-append at (ap length c.in_ok-push-2.ensures.items)),
  λ doc ps are. copied_next g.M.Mark.located g.M.Mark.stand g.M.Mark.content doc ps c.loop-tag.tag c.deref-mark-items.result.now c.loop-tag.tags.items c.loop-tag.marks.items c.mark-item.result c.in_ok-copy.field-0
      c.in_ok-push.ensures.items c.in_ok-push-2.ensures.items c.mark-item.is c.loop-tag-test.true
      (ap (map (shown g.M.Mark.stand g.M.Mark.content)) c.deref-mark-items.ensures.value ∙ are.1) c.in_ok-copy.ensures (c.loop-tag.invariant.1 doc ps are),
)
