use Rattle.std.proofs.Common.{◌≡◌, ◌<◌, ◌+◌, suc, length, MatchOption, sym, subst, arith}
use Rattle.json.specs.Json.{no_members}
use Rattle.json.specs.Value.{value_view, members_view}
use Rattle.jsonpath_nodes.specs.document.Document.{member}
use Rattle.jsonpath_nodes.specs.document.Document as document
use Rattle.json_trees.specs.ExactDocument.{exact_document}
use Rattle.json_trees.specs.OrderedTree.{members_of_tree, members_in_order, members_from}
use Rattle.json_trees.proofs.PlacesLemmas.{next_in_order, taken_inside}
use Rattle.json_trees.proofs.ordered_tree.tree.OrderedValueTree.next_member.Goals as goal

pub returns-in-None : goal.returns-in-None
returns-in-None c =
    let left = c.args.left.now in
    let ms = members_view left.object.members.now.items in
    let ds = members_of_tree (members_in_order ms no_members) in
    subst (λ o. MatchOption o (members_from left.index ds ≡ document.no_members) (λ m. members_from left.index ds ≡ member m.0 (exact_document m.1) (members_from (suc left.index) ds))) (sym c.in-None.ensures) (next_in_order ms left.index)

pub overflow_add-left : goal.overflow_add-left
overflow_add-left c =
    let left = c.args.left.now in
    let xs = left.object.members.now.items in
    let m = c.in-Some.member in
    let inside : left.index < length xs = taken_inside xs left.index (m.0.now, value_view m.1.value.now) c.in-Some.ensures in
    omega (arith, inside, left.object.members.now.ok.0, left.object.members.now.small)

pub returns-in-Some : goal.returns-in-Some
returns-in-Some c =
    let left = c.args.left.now in
    let ms = members_view left.object.members.now.items in
    let ds = members_of_tree (members_in_order ms no_members) in
    let m = c.in-Some.member in
    let next : suc left.index ≡ left.index + 1 = omega arith in
    subst (λ n. members_from left.index ds ≡ member m.0.now (exact_document (value_view m.1.value.now)) (members_from n ds)) next
    (subst (λ o. MatchOption o (members_from left.index ds ≡ document.no_members) (λ m. members_from left.index ds ≡ member m.0 (exact_document m.1) (members_from (suc left.index) ds))) (sym c.in-Some.ensures) (next_in_order ms left.index))
