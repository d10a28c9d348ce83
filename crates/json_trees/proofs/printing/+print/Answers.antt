use Rattle.std.proofs.Common.{rules, OnOk, refl, sym, ap, ◌∙◌, subst}
use Rattle.json.specs.Value.{value_view}
use Rattle.jsonpath_nodes.specs.document.Document.{Document}
use Rattle.jsonpath_nodes.specs.update.Topmost.{items_with_answer, members_with_answer}
use Rattle.json_trees.specs.AsRead.{tree_as_read, text_document}
use Rattle.json_trees.specs.Changed.{answer_of}
use Rattle.json_trees.specs.Prints.{is_unread, Prints}
use Rattle.json_trees.specs.Targets.{targets_view}
use Rattle.json_trees.specs.TextHandles.{text_items, text_members, text_items_left, text_members_left}
use Rattle.json_trees.proofs.PrintLemmas.{items_next, members_next, ascend_behind, tree_stands}
use Rattle.json_trees.proofs.printing.+print.Goals as goal

pub add_items-loop-item-preserved : goal.add_items-loop-item-preserved
add_items-loop-item-preserved t c =
    let a = answer_of c.args.replacement in
    let all = items_with_answer a (targets_view c.args.targets) 0 (text_items c.args.items) in
    record {
      before = search rules;
      printed = items_next a (targets_view c.loop-item.targets) (targets_view c.through-below.new.self) (targets_view c.through-below.result) c.loop-item.index (text_items_left c.loop-item.left) (text_items_left c.next_item.new.left) all (text_document c.in-Some.item) _ _ _
          c.in-Some.ensures c.through-below.ensures.here c.through-below.ensures.later c.loop-item.invariant.printed c.in_ok-add_item.ensures.ok;
      count = search rules;
      within = search rules;
    }

pub add_members-loop-name-preserved : goal.add_members-loop-name-preserved
add_members-loop-name-preserved t c =
    let a = answer_of c.args.replacement in
    let all = members_with_answer a (targets_view c.args.targets) (text_members c.args.members) in
    let left = text_members_left c.loop-name.left in
    let ms = text_members_left c.next_member.new.left in
    let d = text_document c.in-Some.member in
    record {
      before = search rules;
      printed = members_next a (targets_view c.loop-name.targets) (targets_view c.through-below.new.self) (targets_view c.through-below.result) c.in-Some.name.now left ms all d _ _ _
          c.loop-name.invariant.ascend c.in-Some.ensures c.through-below.ensures.here c.through-below.ensures.later c.loop-name.invariant.printed c.in_ok-add_member.ensures.ok;
      ascend = ascend_behind c.in-Some.name.now d left ms c.loop-name.invariant.ascend c.in-Some.ensures;
      within = search rules;
    }

pub add_value-returns-then-is_in_order-clause-ok : goal.add_value-returns-then-is_in_order-clause-ok
add_value-returns-then-is_in_order-clause-ok t c =
    let j = value_view c.args.value.ordered.value.now in
    let same = ap (λ v. tree_as_read (value_view v)) c.value.ensures ∙ tree_stands (answer_of c.args.replacement) (targets_view c.args.targets) j (c.if-is_empty.ensures.0 refl) (c.if-is_in_order.ensures refl) in
    subst (λ (d : Document). OnOk c.add_tree.result (Prints d c.args.writer.now.tokens c.add_tree.new.writer.tokens)) same c.add_tree.ensures.ok

pub add_value-returns-then-is_in_order-clause-unread : goal.add_value-returns-then-is_in_order-clause-unread
add_value-returns-then-is_in_order-clause-unread t c e =
    let j = value_view c.args.value.ordered.value.now in
    let same = ap (λ v. tree_as_read (value_view v)) c.value.ensures ∙ tree_stands (answer_of c.args.replacement) (targets_view c.args.targets) j (c.if-is_empty.ensures.0 refl) (c.if-is_in_order.ensures refl) in
    ap is_unread (sym same) ∙ c.add_tree.ensures.unread e
