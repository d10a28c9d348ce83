use Rattle.jsonpath_select.proofs.tagged.ConditionLemmas.{join_next}
use Rattle.jsonpath_select.proofs.tagged.conditions.join_tags.Goals as goal

pub loop-tag-preserved : goal.loop-tag-preserved
loop-tag-preserved c = (
  c.position_past_tag-left_end.ensures.within,
  c.position_past_tag-right_end.ensures.within,
  join_next c.args.op c.args.left.now c.args.right.now c.args.count c.loop-tag.tag c.loop-tag.left_from c.position_past_tag-left_end.result c.loop-tag.right_from c.position_past_tag-right_end.result c.connective_holds-holds.result
      c.loop-tag.tags.items c.push_tag_if.new.tags.items c.loop-tag-test.true c.position_past_tag-left_end.ensures.goes c.position_past_tag-right_end.ensures.goes c.connective_holds-holds.ensures c.in_ok-push_tag_if.ensures c.loop-tag.invariant.2,
)
