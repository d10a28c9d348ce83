use Rattle.std.proofs.Common.{◌≤◌, ◌<◌, Some, length, ap, ◌∙◌, arith}
use Rattle.serde_json.specs.declared.value.Value.{Value}
use Rattle.jsonpath_nodes.specs.document.OfData.{value_document}
use Rattle.jsonpath_nodes.proofs.tree.ValueLemmas.{get_item_within, get_item_past}
use Rattle.jsonpath_nodes.proofs.tree.of_value.RefValueTree.item_at.Goals as goal

pub returns-then-index-len : goal.returns-then-index-len
returns-then-index-len c =
    let within : c.args.index < length c.args.array.now.items = omega (arith, c.args.array.now.ok.0) in
    ap (λ (v : Value). Some (value_document v)) c.index.ensures ∙ get_item_within c.args.array.now.items c.args.index c.index.result.now within

pub returns-else-index-len : goal.returns-else-index-len
returns-else-index-len c =
    let past : length c.args.array.now.items ≤ c.args.index = omega (arith, c.args.array.now.ok.0) in
    get_item_past c.args.array.now.items c.args.index past
