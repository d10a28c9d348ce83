use Rattle.std.proofs.Common.{◌≡◌, ℤ, pos, ◌≤ℤ◌, take, get_or, to_z, of_z, w64, rules, refl, sym, ◌∙◌, subst}
use Rattle.std.specs.List.{AllByRecursion}
use Rattle.std.proofs.lemmas.Cmp.{int_cmp_total}
use Rattle.jsonpath_select.proofs.step.DistinctLemmas.{AreMet, none_met, one_more_met, taken, all_snoc}
use Rattle.jsonpath_select.proofs.step.distinct_selections.indexes_select_distinct_items.Goals as goal

pub loop-index-init : goal.loop-index-init
loop-index-init c = (none_met int_cmp_total (λ n. n) c.new-seen.result c.new-seen.ensures.empty, tt)

pub loop-index-preserved : goal.loop-index-preserved
loop-index-preserved c =
    let i = c.loop-index.index-index in
    let n : ℤ = get_or c.args.indexes.now i (pos 0) in
    let read : ℤ = to_z w64 (of_z w64 n) in
    let exact : read ≡ n = search rules in
    let from_front : pos 0 ≤ℤ read = search rules in
    let more = taken c.args.indexes.now i (pos 0) n c.loop-index-test.true refl in (
      subst (AreMet int_cmp_total (λ m. m) c.insert.new.self) (sym more)
          (one_more_met int_cmp_total (λ m. m) c.loop-index.seen c.insert.new.self (take i c.args.indexes.now) read n exact (sym c.if-not-branch.false ∙ c.in_ok-insert.ensures.added) c.in_ok-insert.ensures.updates.0 c.loop-index.invariant.0),
      subst (AllByRecursion (λ m. pos 0 ≤ℤ m)) (sym more) (all_snoc (λ m. pos 0 ≤ℤ m) (take i c.args.indexes.now) n c.loop-index.invariant.1 (subst (λ m. pos 0 ≤ℤ m) exact from_front)),
    )
