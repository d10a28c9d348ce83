use Rattle.std.proofs.Common.{◌≡◌, ◌≤◌, ◌-◌, ◌++◌, List, length, drop}
use Rattle.jsonpath_select.specs.plan.Machine.{Tagged, some_tags}
use Rattle.jsonpath_select.specs.plan.Shown.{tags_of}
use Rattle.jsonpath_select.proofs.tagged.conditions.distinct_tags.Given as goal

abbrev pub invariant-loop-tag : goal.invariant-loop-tag
invariant-loop-tag l =
    (l.from ≤ length l.tags) × ((ps : List Tagged) → l.tags ≡ tags_of ps → l.found.items ++ some_tags l.tag (l.count - l.tag) (drop l.from ps) ≡ some_tags 0 l.count ps)
