use Rattle.std.proofs.Common.{sym, ap, ◌∙◌}
use Rattle.jsonpath_select.specs.plan.Machine.{all_tags_or_none}
use Rattle.jsonpath_select.proofs.tagged.ConditionLemmas.{none_hold, all_next}
use Rattle.jsonpath_select.proofs.tagged.conditions.all_tags_or_none.Goals as goal

pub returns-then-not-holds : goal.returns-then-not-holds
returns-then-not-holds c = c.new.ensures.items ∙ sym (ap (λ b. all_tags_or_none b 0 c.args.count) c.if-not-holds.true ∙ none_hold 0 c.args.count)

pub loop-tag-preserved : goal.loop-tag-preserved
loop-tag-preserved c = all_next c.args.count c.loop-tag.tag c.loop-tag.tags.items c.push.new.self.items c.loop-tag-test.true c.in_ok-push.ensures.items c.loop-tag.invariant
