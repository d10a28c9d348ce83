use Rattle.std.proofs.Common.{◌≡◌, ◌-◌, ◌++◌, true}
use Rattle.jsonpath_select.specs.plan.Machine.{all_tags_or_none}
use Rattle.jsonpath_select.proofs.tagged.conditions.all_tags_or_none.Given as goal

abbrev pub invariant-loop-tag : goal.invariant-loop-tag
invariant-loop-tag l = l.tags.items ++ all_tags_or_none true l.tag (l.count - l.tag) ≡ all_tags_or_none true 0 l.count
