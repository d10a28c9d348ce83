use Rattle.std.proofs.Common.{◌≡◌, ◌<◌, true, Some, IfSome, length, sym, ap, subst, ◌∙◌, arith, Global}
use Rattle.json.specs.Find.{get_item}
use Rattle.json.specs.Value.{value_view, items_view}
use Rattle.json.specs.declared.value.Value.{Value}
use Rattle.json.proofs.Trees.{get_item_within, get_item_past}
use Rattle.json_trees.specs.TreeOrder.{is_order}
use Rattle.json_trees.proofs.ordered_tree.handle.OrderedItems.item.Goals as goal

pub returns-then-index-len : goal.returns-then-index-len
returns-then-index-len c = get_item_past c.args.self.items.now.items c.args.index (omega (arith, c.args.self.items.now.ok.0))

pub with_order-requires : goal.with_order-requires
with_order-requires c =
    let xs = c.args.self.items.now.items in
    let within : c.args.index < length xs = omega (arith, c.args.self.items.now.ok.0) in
    let there : get_item c.args.index (items_view xs) ≡ Some (value_view c.index.result.now) = sym (ap (λ (v : Value Global). Some (value_view v)) c.index.ensures ∙ get_item_within xs c.args.index c.index.result.now within) in
    subst (λ o. IfSome o (λ j. is_order c.in_item-order.result.now j ≡ true)) there (c.in_item-order.ensures (items_view xs) c.args.self.ordered)

pub returns : goal.returns
returns c =
    let xs = c.args.self.items.now.items in
    let within : c.args.index < length xs = omega (arith, c.args.self.items.now.ok.0) in
    ap (λ (v : Value Global). Some (value_view v)) (c.with_order.ensures ∙ c.index.ensures) ∙ get_item_within xs c.args.index c.index.result.now within
