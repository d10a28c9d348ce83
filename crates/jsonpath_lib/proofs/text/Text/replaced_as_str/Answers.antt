use Rattle.std.proofs.Common.{◌≡◌, map, ap, ◌∙◌}
use Rattle.json_trees.specs.AsRead.{text_document}
use Rattle.json_trees.specs.ExactDocument.{name_bytes}
use Rattle.jsonpath_nodes.specs.place.SpotPlace.{place_location, step_of}
use Rattle.jsonpath_lib.specs.Text.{IsTreeOf}
use Rattle.jsonpath_lib.proofs.TargetLemmas.{in_order_already, put_in_order, order_ascends}
use Rattle.jsonpath_lib.proofs.TextLemmas.{text_for_paths, refusal_for_paths}
use Rattle.jsonpath_lib.proofs.text.Text.replaced_as_str.Goals as goal

pub returns-then-are_in_order-clause-ok : goal.returns-then-are_in_order-clause-ok
returns-then-are_in_order-clause-ok c =
    let same : map (λ p. map step_of p.steps.now) c.as_slice-targets.result.now ≡ map (place_location name_bytes) c.in_ok-nodes.nodes.items =
    ap (map (λ p. map step_of p.steps.now)) c.as_slice-targets.ensures.value ∙ c.in_ok-lists.ensures ∙ c.in_ok-each.ensures.lists ∙ ap (map (place_location name_bytes)) c.as_slice.ensures.value in
    let targets = in_order_already name_bytes text_document c.args.paths.now (text_document c.root-root.result) c.in_ok-nodes.nodes.items c.in_ok-nodes.ensures c.as_slice-targets.result.now same (c.are_in_order.ensures.0 c.if-are_in_order.true) in
    text_for_paths (IsTreeOf c.args.self.now) c.args.replacement c.args.paths.now (text_document c.root-root.result) (map (λ p. map step_of p.steps.now) c.as_slice-targets.result.now) c.root-root.ensures targets c.text_with_replacement.result c.text_with_replacement.ensures.ok

pub returns-then-are_in_order-clause-refused : goal.returns-then-are_in_order-clause-refused
returns-then-are_in_order-clause-refused c =
    let same : map (λ p. map step_of p.steps.now) c.as_slice-targets.result.now ≡ map (place_location name_bytes) c.in_ok-nodes.nodes.items =
    ap (map (λ p. map step_of p.steps.now)) c.as_slice-targets.ensures.value ∙ c.in_ok-lists.ensures ∙ c.in_ok-each.ensures.lists ∙ ap (map (place_location name_bytes)) c.as_slice.ensures.value in
    let targets = in_order_already name_bytes text_document c.args.paths.now (text_document c.root-root.result) c.in_ok-nodes.nodes.items c.in_ok-nodes.ensures c.as_slice-targets.result.now same (c.are_in_order.ensures.0 c.if-are_in_order.true) in
    refusal_for_paths (IsTreeOf c.args.self.now) c.args.replacement c.args.paths.now (text_document c.root-root.result) (map (λ p. map step_of p.steps.now) c.as_slice-targets.result.now) c.root-root.ensures targets c.text_with_replacement.result c.text_with_replacement.ensures.refused

pub text_with_replacement-requires-2 : goal.text_with_replacement-requires-2
text_with_replacement-requires-2 c =
    let same : map (λ p. map step_of p.steps.now) c.as_slice-4.result.now ≡ map (place_location name_bytes) c.in_ok-ordered.ordered.items =
    ap (map (λ p. map step_of p.steps.now)) c.as_slice-4.ensures.value ∙ c.in_ok-lists-2.ensures ∙ c.in_ok-each-2.ensures.lists ∙ ap (map (place_location name_bytes)) c.as_slice-3.ensures.value in
    order_ascends name_bytes text_document c.args.paths.now (text_document c.root-root.result) c.in_ok-nodes.nodes.items c.in_ok-nodes.ensures c.as_slice-4.result.now c.as_slice-2.result.now c.in_ok-ordered.ordered.items c.as_slice-2.ensures.value c.in_ok-ordered.ensures same c.locations_once_in_order_ascend.ensures.ascends

pub returns-clause-ok : goal.returns-clause-ok
returns-clause-ok c =
    let same : map (λ p. map step_of p.steps.now) c.as_slice-4.result.now ≡ map (place_location name_bytes) c.in_ok-ordered.ordered.items =
    ap (map (λ p. map step_of p.steps.now)) c.as_slice-4.ensures.value ∙ c.in_ok-lists-2.ensures ∙ c.in_ok-each-2.ensures.lists ∙ ap (map (place_location name_bytes)) c.as_slice-3.ensures.value in
    let targets = put_in_order name_bytes text_document c.args.paths.now (text_document c.root-root.result) c.in_ok-nodes.nodes.items c.in_ok-nodes.ensures c.as_slice-4.result.now c.as_slice-2.result.now c.in_ok-ordered.ordered.items c.as_slice-2.ensures.value c.in_ok-ordered.ensures same in
    text_for_paths (IsTreeOf c.args.self.now) c.args.replacement c.args.paths.now (text_document c.root-root.result) (map (λ p. map step_of p.steps.now) c.as_slice-4.result.now) c.root-root.ensures targets c.text_with_replacement-2.result c.text_with_replacement-2.ensures.ok

pub returns-clause-refused : goal.returns-clause-refused
returns-clause-refused c =
    let same : map (λ p. map step_of p.steps.now) c.as_slice-4.result.now ≡ map (place_location name_bytes) c.in_ok-ordered.ordered.items =
    ap (map (λ p. map step_of p.steps.now)) c.as_slice-4.ensures.value ∙ c.in_ok-lists-2.ensures ∙ c.in_ok-each-2.ensures.lists ∙ ap (map (place_location name_bytes)) c.as_slice-3.ensures.value in
    let targets = put_in_order name_bytes text_document c.args.paths.now (text_document c.root-root.result) c.in_ok-nodes.nodes.items c.in_ok-nodes.ensures c.as_slice-4.result.now c.as_slice-2.result.now c.in_ok-ordered.ordered.items c.as_slice-2.ensures.value c.in_ok-ordered.ensures same in
    refusal_for_paths (IsTreeOf c.args.self.now) c.args.replacement c.args.paths.now (text_document c.root-root.result) (map (λ p. map step_of p.steps.now) c.as_slice-4.result.now) c.root-root.ensures targets c.text_with_replacement-2.result c.text_with_replacement-2.ensures.refused
