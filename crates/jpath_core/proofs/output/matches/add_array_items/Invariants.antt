use Rattle.std.proofs.Common.{◌≡◌, ◌++◌, false, drop, map}
use Rattle.json.specs.Value.{value_view}
use Rattle.jpath_core.specs.Matches.{items_text}
use Rattle.jpath_core.proofs.output.matches.add_array_items.Given as goal

abbrev pub invariant-loop-selected : goal.invariant-loop-selected
invariant-loop-selected l =
    l.out.items ++ items_text l.has_items l.look (map (λ v. value_view v.value.now) (drop l.selected-index l.values)) ≡ l.initial.out.items ++ items_text false l.look (map (λ v. value_view v.value.now) l.values)
