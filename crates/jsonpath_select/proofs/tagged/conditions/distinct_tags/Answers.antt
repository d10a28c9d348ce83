use Rattle.jsonpath_select.proofs.tagged.ConditionLemmas.{reached_next}
use Rattle.jsonpath_select.proofs.tagged.conditions.distinct_tags.Goals as goal

pub loop-tag-preserved : goal.loop-tag-preserved
loop-tag-preserved c = (
  c.candidate_end_in_tags-end.ensures.within,
  λ ps are. reached_next ps c.args.tags.now c.args.count c.loop-tag.tag c.loop-tag.from c.candidate_end_in_tags-end.result c.loop-tag.found.items c.push_tag_if.new.tags.items are c.loop-tag-test.true c.candidate_end_in_tags-end.ensures.run
      c.in_ok-push_tag_if.ensures (c.loop-tag.invariant.1 ps are),
)
