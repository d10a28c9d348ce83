use Rattle.std.proofs.Common.{take}
use Rattle.json.specs.Value.{value_view}
use Rattle.jpath_core.specs.Matches.{IsCountOf}
use Rattle.jpath_core.proofs.output.matches.count_matches.Given as goal

abbrev pub invariant-loop-query : goal.invariant-loop-query
invariant-loop-query l = IsCountOf (take l.query-index l.queries) (value_view l.document.exact) l.count
