use Rattle.std.proofs.Common.{[], ◌∷◌, refl, subst, string_bytes}
use Rattle.std.proofs.lemmas.Result.{IfErr-weaker, IfOk-weaker}
use Rattle.serde_json.specs.Data.{Data}
use Rattle.jsonpath_nodes.specs.document.OfData.{document_of}
use Rattle.jsonpath_select.specs.Meaning.{Selects}
use Rattle.jsonpath_select.specs.answer.AnswerText.{IsTextOf}
use Rattle.jsonpath_select.specs.answer.Given.{IsTextOfAnswer, IsTextRefusedOf}
use Rattle.jsonpath_lib.specs.Text.{IsTreeOf}
use Rattle.jsonpath_run.specs.Output.{IsAnswer, IsAnswerRefused}
use Rattle.jsonpath_run.specs.declared.words.Command.TheVariants.{Select}
use Rattle.jsonpath_run.proofs.UnreadLemmas.{unread_values}
use Rattle.jsonpath_run.proofs.program.selected_text.Goals as goal

pub returns-clause-ok : goal.returns-clause-ok
returns-clause-ok c =
    let given = c.in_ok-document.ensures.ok in
    let read = subst (λ bytes. IsTextOf bytes given.0) c.as_slice.ensures.value given.1 in
    IfOk-weaker c.select_as_str-text.result (λ text. (before : Data) → IsTreeOf c.in_ok-document.document before → IsTextOfAnswer (Selects c.args.path.now (document_of before)) (string_bytes text))
    (λ text. IsAnswer Select (c.args.path.now ∷ []) c.args.input.items (string_bytes text))
    (λ text written. let is = written given.0 given.2 in (c.args.path.now, refl, record { document = given.0; values = is.0; read = read; selected = is.1; written = is.2 })) c.select_as_str-text.ensures.ok

pub returns-clause-refused : goal.returns-clause-refused
returns-clause-refused c =
    let given = c.in_ok-document.ensures.ok in
    let read = subst (λ bytes. IsTextOf bytes given.0) c.as_slice.ensures.value given.1 in
    IfErr-weaker c.select_as_str-text.result (λ e. (before : Data) → IsTreeOf c.in_ok-document.document before → IsTextRefusedOf (Selects c.args.path.now (document_of before)) e)
    (IsAnswerRefused Select (c.args.path.now ∷ []) c.args.input.items)
    (λ e refused. unread_values c.one_tree_per_text.ensures c.documents_keep_data_apart.ensures c.args.path.now c.args.input.items given.0 e read (refused given.0 given.2)) c.select_as_str-text.ensures.refused
