use Rattle.std.proofs.Common.{subst, string_bytes}
use Rattle.std.proofs.lemmas.Result.{IfErr-weaker, IfOk-weaker}
use Rattle.serde_json.specs.Data.{Data}
use Rattle.jsonpath_nodes.specs.document.OfData.{document_of}
use Rattle.jsonpath_select.specs.answer.AnswerText.{IsTextOf}
use Rattle.jsonpath_lib.specs.Text.{IsTreeOf, IsTextOfChanged, IsChangedTextRefused}
use Rattle.jsonpath_run.specs.Output.{IsAnswer, IsAnswerRefused, IsChange}
use Rattle.jsonpath_run.proofs.UnreadLemmas.{answer_of, unread_change}
use Rattle.jsonpath_run.proofs.program.changed_text.Goals as goal

pub returns-clause-ok : goal.returns-clause-ok
returns-clause-ok c =
    let given = c.in_ok-document.ensures.ok in
    let read = subst (λ bytes. IsTextOf bytes given.0) c.as_slice.ensures.value given.1 in
    IfOk-weaker c.text_of_change-text.result (λ text. (before : Data) → IsTreeOf c.in_ok-document.document before → IsTextOfChanged (IsChange c.args.command c.args.paths.now (document_of before)) (string_bytes text))
    (λ text. IsAnswer c.args.command c.args.paths.now c.args.input.items (string_bytes text))
    (λ text written. let is = written given.0 given.2 in answer_of c.args.command c.args.paths.now c.args.input.items (string_bytes text) given.0 is.0 read is.1 is.2) c.text_of_change-text.ensures.ok

pub returns-clause-refused : goal.returns-clause-refused
returns-clause-refused c =
    let given = c.in_ok-document.ensures.ok in
    let read = subst (λ bytes. IsTextOf bytes given.0) c.as_slice.ensures.value given.1 in
    IfErr-weaker c.text_of_change-text.result (λ e. (before : Data) → IsTreeOf c.in_ok-document.document before → IsChangedTextRefused (IsChange c.args.command c.args.paths.now (document_of before)) e)
    (IsAnswerRefused c.args.command c.args.paths.now c.args.input.items)
    (λ e refused. unread_change c.one_tree_per_text.ensures c.documents_keep_data_apart.ensures c.args.command c.args.paths.now c.args.input.items given.0 e read (refused given.0 given.2)) c.text_of_change-text.ensures.refused
