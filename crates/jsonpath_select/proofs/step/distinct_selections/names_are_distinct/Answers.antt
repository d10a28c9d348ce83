use Rattle.std.proofs.Common.{map, take, refl, sym, ◌∙◌, subst}
use Rattle.std.specs.Cow.{cow_str_bytes}
use Rattle.std.proofs.lemmas.Cmp.{nat_list_cmp_total}
use Rattle.jsonpath_select.specs.Parts.{name_at}
use Rattle.jsonpath_select.proofs.step.DistinctLemmas.{AreMet, none_met, one_more_met, taken_more}
use Rattle.jsonpath_select.proofs.step.distinct_selections.names_are_distinct.Goals as goal

pub loop-span-init : goal.loop-span-init
loop-span-init c = none_met nat_list_cmp_total cow_str_bytes c.new-seen.result c.new-seen.ensures.empty

pub loop-span-preserved : goal.loop-span-preserved
loop-span-preserved c =
    let names = name_at c.args.text.now in
    let more = taken_more names c.args.spans.now c.loop-span.span-index _ (cow_str_bytes c.in_ok-next.next) c.loop-span-test.true c.in_ok-next.ensures in
    subst (AreMet nat_list_cmp_total cow_str_bytes c.insert.new.self) (sym more)
    (one_more_met nat_list_cmp_total cow_str_bytes c.loop-span.seen c.insert.new.self (map names (take c.loop-span.span-index c.args.spans.now)) c.in_ok-next.next (cow_str_bytes c.in_ok-next.next) refl (sym c.if-not-branch.false ∙ c.in_ok-insert.ensures.added)
    c.in_ok-insert.ensures.updates.0 c.loop-span.invariant)
