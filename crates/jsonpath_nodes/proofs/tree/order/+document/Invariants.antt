use Rattle.std.proofs.Common.{◌+◌, ◌*◌, ◌≤◌}
use Rattle.jsonpath_nodes.specs.document.Document.{depth, items_depth, members_depth}
use Rattle.jsonpath_nodes.specs.document.Find.{items_len, members_len}
use Rattle.jsonpath_nodes.specs.place.Order.{AreOrderedDocuments, HoldOrderedDocuments}
use Rattle.jsonpath_nodes.proofs.tree.order.+document.Given as goal

abbrev pub decreases-value_is_document : goal.decreases-value_is_document
decreases-value_is_document g l = 2 * depth (g.T.Tree.content l.value)

abbrev pub decreases-items_are_documents : goal.decreases-items_are_documents
decreases-items_are_documents g l = 2 * items_depth (g.T.Tree.items l.items) + 1

abbrev pub decreases-object_is_document : goal.decreases-object_is_document
decreases-object_is_document g l = 2 * members_depth (g.T.Tree.members l.members) + 1

abbrev pub invariant-items_are_documents-loop-item : goal.invariant-items_are_documents-loop-item
invariant-items_are_documents-loop-item g l =
    let left = g.T.Tree.items_left l.left in
    let all = g.T.Tree.items l.fn.items in
    record {
      documents : AreOrderedDocuments left → AreOrderedDocuments all;
      within : items_depth left ≤ items_depth all;
    }

abbrev pub decreases-items_are_documents-loop-item : goal.decreases-items_are_documents-loop-item
decreases-items_are_documents-loop-item g l = items_len (g.T.Tree.items_left l.left)

abbrev pub invariant-object_is_document-loop-member : goal.invariant-object_is_document-loop-member
invariant-object_is_document-loop-member g l =
    let left = g.T.Tree.members_left l.left in
    let all = g.T.Tree.members l.fn.members in
    record {
      documents : HoldOrderedDocuments left → HoldOrderedDocuments all;
      within : members_depth left ≤ members_depth all;
    }

abbrev pub decreases-object_is_document-loop-member : goal.decreases-object_is_document-loop-member
decreases-object_is_document-loop-member g l = members_len (g.T.Tree.members_left l.left)
