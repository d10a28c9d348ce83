use Rattle.std.proofs.Common.{◌≡◌, ◌+◌, ◌==◌, drop}
use Rattle.std.specs.List.{prefix_len}
use Rattle.jsonpath_select.proofs.tagged.tag_lists.candidate_end_in_tags.Given as goal

abbrev pub invariant-loop-end : goal.invariant-loop-end
invariant-loop-end l = l.end + prefix_len (λ u. u == l.tag) (drop l.end l.tags) ≡ l.from + prefix_len (λ u. u == l.tag) (drop l.from l.tags)
