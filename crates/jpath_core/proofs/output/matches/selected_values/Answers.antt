use Rattle.std.proofs.Common.{◌≡◌, ◌+◌, List, [], ◌∷◌, ◌++◌, map, sym, ap, ap₂, subst, take, ◌∙◌}
use Rattle.std.specs.Prelude.{filter_map}
use Rattle.std.proofs.lemmas.List.{take_more}
use Rattle.std.proofs.lemmas.List.Elements.{filter_map-append, All-nil, All-same}
use Rattle.json.specs.Json.{Json}
use Rattle.json.specs.Tree.{HasNumbers}
use Rattle.json.specs.Value.{value_view}
use Rattle.json_trees.specs.ExactAt.{exact_at}
use Rattle.jpath_core.specs.Matches.{SelectInTurn, nothing}
use Rattle.jpath_core.specs.Nodes.{location_of}
use Rattle.jpath_core.proofs.TurnLemmas.{turn_more, nodes_selected}
use Rattle.jpath_core.proofs.output.matches.selected_values.Goals as goal

pub loop-query-init : goal.loop-query-init
loop-query-init c = record {
  selected = record { locations = []; in_turn = nothing; there = ap (map (λ v. value_view v.value.now)) c.new-values.ensures.items };
  writable = All-same (λ v. HasNumbers (value_view v.value.now)) _ [] c.new-values.ensures.items (All-nil (λ v. HasNumbers (value_view v.value.now)));
}

pub loop-query-preserved : goal.loop-query-preserved
loop-query-preserved c =
    let l = c.loop-query in
    let before = l.invariant.selected in
    let queries = c.args.queries.now in
    let exact = value_view c.args.document.now.exact in
    let nodes = c.in_ok-nodes.nodes.items in
    let more = map location_of nodes in
    let query = c.query-item.result in
    let taken : take (l.query-index + 1) queries ≡ take l.query-index queries ++ query ∷ [] = take_more queries l.query-index query c.loop-query-test.true ∙ ap (λ q. take l.query-index queries ++ q ∷ []) (sym c.query-item.is) in
    record {
      selected = record {
        locations = before.locations ++ more;
        in_turn = subst (λ qs. SelectInTurn exact qs (before.locations ++ more)) (sym taken)
            (turn_more exact (take l.query-index queries) before.locations more query before.in_turn (nodes_selected exact query nodes c.in_ok-nodes.ensures));
        there = c.in_ok-add_values_at_nodes.ensures.added ∙ ap₂ (λ (js ks : List Json). js ++ ks) before.there (ap (λ v. filter_map (exact_at (value_view v)) (map location_of c.as_slice.result.now)) c.root.ensures ∙ ap (λ ns. filter_map (exact_at exact) (map location_of ns)) c.as_slice.ensures.value)
            ∙ sym (filter_map-append (exact_at exact) before.locations more);
      };
      writable = c.add_values_at_nodes.ensures.writable l.invariant.writable;
    }
