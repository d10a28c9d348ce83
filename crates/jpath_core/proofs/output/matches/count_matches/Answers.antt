use Rattle.std.proofs.Common.{◌≡◌, ◌+◌, [], ◌∷◌, ◌++◌, map, sym, refl, ap, subst, take, ◌∙◌, arith}
use Rattle.std.proofs.lemmas.List.{length-append, length-map, take_more}
use Rattle.json.specs.Value.{value_view}
use Rattle.jpath_core.specs.Matches.{SelectInTurn, nothing}
use Rattle.jpath_core.specs.Nodes.{location_of}
use Rattle.jpath_core.proofs.TurnLemmas.{turn_more, nodes_selected}
use Rattle.jpath_core.proofs.output.matches.count_matches.Goals as goal

pub loop-query-init : goal.loop-query-init
loop-query-init c = record { locations = []; in_turn = nothing; counted = refl }

pub loop-query-preserved : goal.loop-query-preserved
loop-query-preserved c =
    let l = c.loop-query in
    let before = l.invariant in
    let queries = c.args.queries.now in
    let exact = value_view c.args.document.now.exact in
    let nodes = c.in_ok-select_in_document.field-0.items in
    let query = c.query-item.result in
    let found = nodes_selected exact query nodes c.in_ok-select_in_document.ensures in
    let taken : take (l.query-index + 1) queries ≡ take l.query-index queries ++ query ∷ [] = take_more queries l.query-index query c.loop-query-test.true ∙ ap (λ q. take l.query-index queries ++ q ∷ []) (sym c.query-item.is) in
    let turn = turn_more exact (take l.query-index queries) before.locations (map location_of nodes) query before.in_turn found in
    record {
      locations = before.locations ++ map location_of nodes;
      in_turn = subst (λ qs. SelectInTurn exact qs (before.locations ++ map location_of nodes)) (sym taken) turn;
      counted = omega (arith, before.counted, length-append before.locations (map location_of nodes), length-map nodes location_of);
    }
