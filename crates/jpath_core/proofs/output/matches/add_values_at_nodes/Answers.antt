use Rattle.std.proofs.Common.{◌≡◌, [], ◌∷◌, ◌++◌, None, Some, IfSome, option_map, map, take, sym, ap, subst, ◌∙◌}
use Rattle.std.specs.Prelude.{filter_map}
use Rattle.std.proofs.lemmas.List.{append_assoc, map-append}
use Rattle.std.proofs.lemmas.List.Elements.{All-push, All-same}
use Rattle.json.specs.Json.{Json}
use Rattle.json.specs.Tree.{HasNumbers}
use Rattle.json.specs.Value.{value_view}
use Rattle.json_trees.specs.ExactAt.{exact_at}
use Rattle.jpath_core.specs.Nodes.{location_of}
use Rattle.jpath_core.specs.declared.output.matches.Selected.{Selected}
use Rattle.jpath_core.proofs.TurnLemmas.{located_more, none_more, some_more}
use Rattle.jpath_core.proofs.output.matches.add_values_at_nodes.Goals as goal
use Rattle.jpath_core.proofs.output.matches.add_values_at_nodes.Goals.{in-Some+in_ok-push, in_default}

abbrev view : Selected → Json
view s = value_view s.value.now

pub loop-node-preserved : goal.loop-node-preserved
loop-node-preserved c =
    let exact = value_view c.args.root.value.now in
    let ls = map location_of (take c.loop-node.node-index c.args.nodes.now) in
    let l = location_of c.node-item.result in
    let located = located_more c.args.nodes.now c.loop-node.node-index c.node-item.result c.loop-node-test.true c.node-item.is in
    let value = sym c.in_ok-found.ensures.value in
    elim c.match-branch-2.branch [
      | in-Some+in_ok-push w ↦
          let there : exact_at exact l ≡ Some (value_view w.value.result.now) = value ∙ ap (option_map (λ v. value_view v.value.now)) w.in-Some.is ∙ ap (λ v. Some (value_view v)) (sym w.value.ensures) in
          let has_numbers = subst (λ found. IfSome found (λ v. HasNumbers (value_view v.value.now))) w.in-Some.is c.in_ok-found.ensures.writable in
          let items = ap (λ v. v.items) w.values-is ∙ w.in_ok-push.ensures.items in
          record {
            way = c.printable_value_at_node.ensures.way;
            added = ap (map view) items ∙ map-append view c.loop-node.values.items _
                ∙ ap (λ js. js ++ value_view w.value.result.now ∷ []) c.loop-node.invariant.added
                ∙ append_assoc (map view c.args.values.now.items) (filter_map (exact_at exact) ls) _
                ∙ ap (λ js. map view c.args.values.now.items ++ js) (sym (some_more exact ls l _ there) ∙ ap (filter_map (exact_at exact)) (sym located));
            writable = λ old. All-same (λ v. HasNumbers (value_view v.value.now)) _ _ items
                (All-push (λ v. HasNumbers (value_view v.value.now)) _ _ (c.loop-node.invariant.writable old) (subst (λ v. HasNumbers (value_view v)) (sym w.value.ensures) has_numbers));
          }
      | in_default w ↦
          let absent : exact_at exact l ≡ None = value ∙ ap (option_map (λ v. value_view v.value.now)) w.in_default.is in
          record {
            way = c.printable_value_at_node.ensures.way;
            added = ap (λ v. map view v.items) w.values-is ∙ c.loop-node.invariant.added
                ∙ ap (λ js. map view c.args.values.now.items ++ js) (sym (none_more exact ls l absent) ∙ ap (filter_map (exact_at exact)) (sym located));
            writable = λ old. All-same (λ v. HasNumbers (value_view v.value.now)) _ _ (ap (λ v. v.items) w.values-is) (c.loop-node.invariant.writable old);
          }
    ]
