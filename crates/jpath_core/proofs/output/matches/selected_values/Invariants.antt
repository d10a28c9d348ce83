use Rattle.std.proofs.Common.{All, map, take}
use Rattle.json.specs.Tree.{HasNumbers}
use Rattle.json.specs.Value.{value_view}
use Rattle.jpath_core.specs.Matches.{AreSelected}
use Rattle.jpath_core.proofs.output.matches.selected_values.Given as goal

abbrev pub invariant-loop-query : goal.invariant-loop-query
invariant-loop-query l = record {
  selected : AreSelected (take l.query-index l.queries) (value_view l.document.exact) (map (λ v. value_view v.value.now) l.values.items);
  writable : All (λ v. HasNumbers (value_view v.value.now)) l.values.items;
}
