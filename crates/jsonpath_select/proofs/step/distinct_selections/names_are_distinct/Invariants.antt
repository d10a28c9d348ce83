use Rattle.std.proofs.Common.{map, take}
use Rattle.std.specs.Cow.{cow_str_bytes}
use Rattle.std.proofs.lemmas.Cmp.{nat_list_cmp_total}
use Rattle.jsonpath_select.specs.Parts.{name_at}
use Rattle.jsonpath_select.proofs.step.DistinctLemmas.{AreMet}
use Rattle.jsonpath_select.proofs.step.distinct_selections.names_are_distinct.Given as goal

abbrev pub invariant-loop-span : goal.invariant-loop-span
invariant-loop-span l = AreMet nat_list_cmp_total cow_str_bytes l.seen (map (name_at l.text) (take l.span-index l.spans))
