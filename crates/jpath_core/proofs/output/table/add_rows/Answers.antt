use Rattle.std.proofs.Common.{◌≡◌, ◌+◌, [], ◌∷◌, ◌++◌, length, map, sym, ap, subst, take, ◌∙◌, arith}
use Rattle.std.proofs.lemmas.List.{append-nil, append_assoc, length-map, map-append, take_more, take_all}
use Rattle.json.specs.Value.{value_view}
use Rattle.jpath_core.specs.Nodes.{location_of}
use Rattle.jpath_core.specs.Rows.{AddsRow, AreRowsAt, no_rows}
use Rattle.jpath_core.proofs.RowLemmas.{rows_more}
use Rattle.jpath_core.proofs.TurnLemmas.{nodes_selected}
use Rattle.jpath_core.proofs.output.table.add_rows.Goals as goal

pub loop-node-init : goal.loop-node-init
loop-node-init c = ([], no_rows, sym (append-nil c.args.out.now.items))

pub loop-node-preserved : goal.loop-node-preserved
loop-node-preserved c =
    let l = c.loop-node in
    let exact = value_view c.args.document.now.exact in
    let columns = c.args.columns.now in
    let separated = c.args.separated in
    let nodes = c.as_slice-node-items.result.now in
    let before = l.invariant in
    let root = ap (λ v. value_view v) c.root.ensures in
    let node = c.node-item.result in
    let added = subst (λ j. AddsRow j columns separated (location_of node) l.out.items c.add_row_of_node.new.out.items) root c.in_ok-add_row_of_node.ensures in
    let more = rows_more exact columns separated (map location_of (take l.node-index nodes)) before.0 (location_of node) added.text before.1 added.is_row in
    let taken : take (l.node-index + 1) nodes ≡ take l.node-index nodes ++ node ∷ [] = take_more nodes l.node-index node c.loop-node-test.true ∙ ap (λ n. take l.node-index nodes ++ n ∷ []) (sym c.node-item.is) in (
      before.0 ++ added.text,
      subst (λ ls. AreRowsAt exact columns separated ls (before.0 ++ added.text)) (sym (ap (map location_of) taken ∙ map-append location_of (take l.node-index nodes) (node ∷ []))) more,
      added.written ∙ ap (λ o. o ++ added.text) before.2 ∙ append_assoc c.args.out.now.items before.0 added.text,
    )

pub returns : goal.returns
returns c =
    let exact = value_view c.args.document.now.exact in
    let nodes = c.in_ok-nodes.nodes.items in
    let last = c.loop-node.invariant in
    let whole : take c.loop-node.node-index c.as_slice-node-items.result.now ≡ nodes = take_all c.loop-node.node-index c.as_slice-node-items.result.now c.loop-node-test.false ∙ c.as_slice-node-items.ensures.value in
    let counted : c.len.result ≡ length nodes = grind arith in
    record {
      locations = map location_of nodes;
      selected = nodes_selected exact c.args.rows.now nodes c.in_ok-nodes.ensures;
      text = last.0;
      rows = subst (λ ns. AreRowsAt exact c.args.columns.now c.args.separated (map location_of ns) last.0) whole last.1;
      written = last.2;
      counted = counted ∙ sym (length-map nodes location_of);
    }
