use Rattle.std.proofs.Common.{Some, string_bytes, subst, IfOk}
use Rattle.std.specs.List.Sorted.{IsStrictlySortedBy}
use Rattle.jsonpath_nodes.specs.document.Document.{Document, null}
use Rattle.json_trees.specs.AsRead.{text_document}
use Rattle.json_trees.specs.Prints.{IsCompactText, IsUnread}
use Rattle.json_trees.proofs.PrintLemmas.{topmost_none}
use Rattle.json_trees.proofs.printing.compact_text.Goals as goal

pub changed_text-requires : goal.changed_text-requires
unfolding IsStrictlySortedBy
changed_text-requires c = tt

pub returns-clause-ok : goal.returns-clause-ok
returns-clause-ok c = subst (λ (d : Document). IfOk c.changed_text.result (λ text. IsCompactText d (string_bytes text))) (topmost_none (Some null) (text_document c.args.value)) c.changed_text.ensures.ok

pub returns-clause-unread : goal.returns-clause-unread
returns-clause-unread c e = subst IsUnread (topmost_none (Some null) (text_document c.args.value)) (c.changed_text.ensures.unread e)
