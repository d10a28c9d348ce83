use Rattle.std.proofs.Common.{◌≡◌, ◌++◌, None, Some, option_map, map, take, sym, ap, ◌∙◌}
use Rattle.std.proofs.lemmas.List.{append-nil, append_assoc}
use Rattle.json.specs.Value.{value_view}
use Rattle.json_trees.specs.ExactAt.{exact_at}
use Rattle.jpath_core.specs.Matches.{lines_text, match_text}
use Rattle.jpath_core.specs.Nodes.{location_of}
use Rattle.jpath_core.proofs.TurnLemmas.{lines_more, located_more}
use Rattle.jpath_core.proofs.output.matches.add_lines_of_nodes.Goals as goal
use Rattle.jpath_core.proofs.output.matches.add_lines_of_nodes.Goals.{in-Some+in_ok-add_lines_of_match, in_default}

pub loop-node-preserved : goal.loop-node-preserved
loop-node-preserved c =
    let exact = value_view c.args.root.value.now in
    let line = c.args.line.now in
    let out = c.args.out.now.items in
    let ls = map location_of (take c.loop-node.node-index c.args.nodes.now) in
    let l = location_of c.node-item.result in
    let located = located_more c.args.nodes.now c.loop-node.node-index c.node-item.result c.loop-node-test.true c.node-item.is in
    let value = sym c.in_ok-found.ensures.value in
    elim c.match-branch-2.branch [
      | in-Some+in_ok-add_lines_of_match w ↦
          let there : exact_at exact l ≡ Some (value_view w.value.result.now) = value ∙ ap (option_map (λ v. value_view v.value.now)) w.in-Some.is ∙ ap (λ v. Some (value_view v)) (sym w.value.ensures) in
          record {
            way = c.printable_value_at_node.ensures.way;
            written = ap (λ v. v.items) w.out-is ∙ w.in_ok-add_lines_of_match.ensures
                ∙ ap (λ t. t ++ match_text line l (value_view w.value.result.now)) c.loop-node.invariant.written
                ∙ append_assoc out (lines_text line exact ls) _
                ∙ ap (λ t. out ++ t) (sym (lines_more line exact ls l _ there) ∙ ap (lines_text line exact) (sym located));
          }
      | in_default w ↦
          let absent : exact_at exact l ≡ None = value ∙ ap (option_map (λ v. value_view v.value.now)) w.in_default.is in
          record {
            way = c.printable_value_at_node.ensures.way;
            written = ap (λ v. v.items) w.out-is ∙ c.loop-node.invariant.written
                ∙ ap (λ t. out ++ t) (sym (lines_more line exact ls l None absent ∙ append-nil (lines_text line exact ls)) ∙ ap (lines_text line exact) (sym located));
          }
    ]
