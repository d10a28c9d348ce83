use Rattle.std.proofs.Common.{◌≡◌, ◌<◌, ◌+◌, suc, length, MatchOption, sym, subst, arith}
use Rattle.json.specs.Value.{value_view, items_view}
use Rattle.jsonpath_nodes.specs.document.Document.{no_items, item}
use Rattle.json_trees.specs.ExactDocument.{exact_document}
use Rattle.json_trees.specs.OrderedTree.{items_of_tree, items_in_order, items_from}
use Rattle.json_trees.proofs.DocumentLemmas.{next_item_in_order}
use Rattle.json_trees.proofs.OrderLemmas.{item_inside}
use Rattle.json_trees.proofs.ordered_tree.tree.OrderedValueTree.next_item.Goals as goal

pub returns-in-None : goal.returns-in-None
returns-in-None c =
    let left = c.args.left.now in
    let js = items_view left.array.items.now.items in
    let ds = items_of_tree (items_in_order js) in
    subst (λ o. MatchOption o (items_from left.index ds ≡ no_items) (λ j. items_from left.index ds ≡ item (exact_document j) (items_from (suc left.index) ds))) (sym c.in-None.ensures) (next_item_in_order js left.index)

pub overflow_add-left : goal.overflow_add-left
overflow_add-left c =
    let left = c.args.left.now in
    let xs = left.array.items.now.items in
    let inside : left.index < length xs = item_inside xs left.index (value_view c.in-Some.value.value.now) c.in-Some.ensures in
    omega (arith, inside, left.array.items.now.ok.0, left.array.items.now.small)

pub returns-in-Some : goal.returns-in-Some
returns-in-Some c =
    let left = c.args.left.now in
    let js = items_view left.array.items.now.items in
    let ds = items_of_tree (items_in_order js) in
    let next : suc left.index ≡ left.index + 1 = omega arith in
    subst (λ n. items_from left.index ds ≡ item (exact_document (value_view c.in-Some.value.value.now)) (items_from n ds)) next
    (subst (λ o. MatchOption o (items_from left.index ds ≡ no_items) (λ j. items_from left.index ds ≡ item (exact_document j) (items_from (suc left.index) ds))) (sym c.in-Some.ensures) (next_item_in_order js left.index))
