use Rattle.std.proofs.Common.{take, pos, ◌≤ℤ◌}
use Rattle.std.specs.List.{AllByRecursion}
use Rattle.std.proofs.lemmas.Cmp.{int_cmp_total}
use Rattle.jsonpath_select.proofs.step.DistinctLemmas.{AreMet}
use Rattle.jsonpath_select.proofs.step.distinct_selections.indexes_select_distinct_items.Given as goal

abbrev pub invariant-loop-index : goal.invariant-loop-index
invariant-loop-index l = AreMet int_cmp_total (λ n. n) l.seen (take l.index-index l.indexes) × AllByRecursion (λ n. pos 0 ≤ℤ n) (take l.index-index l.indexes)
